-- `techniques::advance_into` meets its contract. Assumes nothing.
use mathlib.Core.Path.{◌≡◌, refl, ap, ◌∙◌}
use mathlib.Core.Bool.{Bool, cond, ◌||◌}
use mathlib.Core.List.{◌++◌}
use Rattle.steps.specs.Boards.{fresh}
use Rattle.steps.specs.Calls.{is_some, outcome}
use Rattle.steps.specs.Passes.{changed}
use Rattle.steps.specs.Ported.{naked_pairs}
use Rattle.steps.specs.Singles.{naked_singles, hidden_singles}
use Rattle.techniques.specs.code.Pushes.{cleared}
use Rattle.techniques.proofs.ReportLists.{singles-few, some-found}
use Rattle.techniques.proofs.advance_into.Goals as goal

pub returns : goal.returns
unfolding outcome
returns c =
    let a = c.args in
    let g = a.givens.now in
    let m = a.masks.now in
    let list = naked_singles g m ++ hidden_singles g m in
    let flag : c.advances-made.result ≡ (is_some list || changed m (naked_pairs g m)) =
    c.advances-made.ensures
    ∙ ap (λ (t : Bool). t || changed m (naked_pairs g m)) (some-found list (singles-few g m) (cleared a.reports.now) refl c.singles_into.ensures) in record {
      made_value = flag;
      reports_after = c.singles_into.ensures;
      masks_after = c.renew.ensures ∙ ap (λ (t : Bool). cond t (fresh g) m) flag;
    }
