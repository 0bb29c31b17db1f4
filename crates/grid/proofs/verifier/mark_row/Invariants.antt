-- `grid::verifier::mark_row` meets its contract. The invariant: the first 9 * row + col numbers are fine, and the array has the marks after them. Assumes nothing.
use mathlib.Core.Bool.{true}
use Prim.Native.Nat.{◌+◌, ◌*◌, ◌≤◌}
use Rattle.grid.specs.code.Standing.{Standing}
use Rattle.grid.proofs.verifier.mark_row.Given as goal

abbrev pub invariant-loop-col : goal.invariant-loop-col
invariant-loop-col l = (l.col ≤ 9) × Standing l.grid (9 * l.row + l.col) true l.marks
