-- `chains::x_links::pair_sum` meets its contract. The invariant: the pair and what the holders that are left add to it are the unit's holders. Assumes nothing.
use mathlib.Core.Path.{◌≡◌}
use mathlib.Core.List.{◌++◌}
use lib.ListN.{drop}
use Rattle.grid.specs.Units.{in_unit}
use Rattle.steps.specs.Loops.{select}
use Rattle.chains.proofs.x_links.pair_sum.Given as goal

abbrev pub invariant-loop-cell : goal.invariant-loop-cell
invariant-loop-cell l = l.pair ++ select (in_unit l.unit) (drop l.cell-index l.cell-items) ≡ select (in_unit l.unit) l.cell-items
