-- `techniques::singles::singles` meets its contract. No list of reports is too long for the value. Assumes nothing.
use mathlib.Core.Path.{ap, ◌∙◌}
use mathlib.Core.List.{◌++◌}
use Rattle.steps.specs.Singles.{naked_singles, hidden_singles}
use Rattle.techniques.specs.Reports.{reports_of}
use Rattle.techniques.specs.code.Pushes.{append, cleared}
use Rattle.techniques.proofs.ReportLists.{stands, singles-few}
use Rattle.techniques.proofs.singles.singles.Goals as goal

pub returns : goal.returns
unfolding reports_of
returns c =
    let a = c.args in
    let list = naked_singles a.givens.now a.masks.now ++ hidden_singles a.givens.now a.masks.now in
    c.singles_into.ensures ∙ ap (append list) (ap cleared c.new-reports.ensures) ∙ stands list (singles-few a.givens.now a.masks.now)
