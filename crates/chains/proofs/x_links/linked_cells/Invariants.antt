-- `chains::x_links::linked_cells` meets its contract. The invariant: the list and what the holders that are left add to it are the whole selection. Assumes nothing.
use mathlib.Core.Path.{◌≡◌}
use mathlib.Core.List.{◌++◌}
use lib.ListN.{drop}
use Rattle.steps.specs.Loops.{select}
use Rattle.chains.specs.code.XLinks.{is_linked}
use Rattle.chains.proofs.x_links.linked_cells.Given as goal

abbrev pub invariant-loop-cell : goal.invariant-loop-cell
invariant-loop-cell l = l.list ++ select (is_linked l.sums) (drop l.cell-index l.cell-items) ≡ select (is_linked l.sums) l.cell-items
