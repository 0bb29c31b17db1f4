-- `chains::search::find_aic_elimination` meets its contract. The invariant: the holders that are left still decide. Assumes nothing.
use mathlib.Core.Path.{◌≡◌}
use lib.ListN.{drop}
use Rattle.steps.specs.Chains.{first_some}
use Rattle.chains.specs.code.Links.{between_at, elimination_in}
use Rattle.chains.proofs.search.find_aic_elimination.Given as goal

abbrev pub invariant-loop-cell : goal.invariant-loop-cell
invariant-loop-cell l = first_some (between_at l.start l.end) (drop l.cell-index l.holders) ≡ elimination_in l.holders l.depth l.start l.end
