-- The lent reports as a value.
use mathlib.Core.Path.{ap, ◌∙◌}
use mathlib.Core.List.{◌++◌}
use Rattle.steps.specs.Calls.{outcome}
use Rattle.steps.specs.Singles.{naked_singles, hidden_singles}
use Rattle.techniques.specs.Reports.{reports_of}
use Rattle.techniques.specs.code.Pushes.{append, cleared}
use Rattle.techniques.proofs.ReportLists.{singles-few, stands}
use Rattle.techniques.proofs.advance.Goals as goal

pub returns : goal.returns
unfolding outcome reports_of
returns c =
    let a = c.args in
    let g = a.givens.now in
    let m = a.masks.now in
    let list = naked_singles g m ++ hidden_singles g m in
    let s = c.advance_into-made.ensures in record {
      made_value = (s.made_value, s.reports_after ∙ ap (append list) (ap cleared c.new-reports.ensures) ∙ stands list (singles-few g m));
      masks_after = s.masks_after;
    }
