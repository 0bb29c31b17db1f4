-- `chains::lists::candidate_positions` meets its contract. The invariant: the list and what the cells that are left add to it are all holders. Assumes nothing.
use mathlib.Core.Path.{◌≡◌}
use mathlib.Core.List.{◌++◌}
use Prim.Native.Nat.{◌-◌}
use Rattle.grid.specs.Cells.{cells}
use Rattle.steps.specs.Loops.{range, select}
use Rattle.steps.specs.Ported.{holds}
use Rattle.chains.proofs.lists.candidate_positions.Given as goal

abbrev pub invariant-loop-cell : goal.invariant-loop-cell
invariant-loop-cell l = l.list ++ select (holds l.givens l.masks l.digit) (range (81 - l.cell) l.cell) ≡ select (holds l.givens l.masks l.digit) cells
