-- One list after the other is one list. There is room for both. Assumes nothing.
use mathlib.Core.Path.{sym, ap, ◌∙◌}
use Rattle.steps.specs.Singles.{naked_singles, hidden_singles}
use Rattle.steps.proofs.Loops.{each_append}
use Rattle.techniques.specs.code.Pushes.{pushed, append, cleared}
use Rattle.techniques.proofs.singles.singles_into.Goals as goal

pub returns : goal.returns
unfolding append
returns c =
    let a = c.args in
    let g = a.givens.now in
    let m = a.masks.now in
    c.hidden_singles.ensures ∙ ap (append (hidden_singles g m)) (c.naked_singles.ensures.reports_after ∙ ap (append (naked_singles g m)) c.clear.ensures)
    ∙ sym (each_append (λ r q. pushed q r.cell r.digit) (naked_singles g m) (hidden_singles g m) (cleared a.reports.now))
