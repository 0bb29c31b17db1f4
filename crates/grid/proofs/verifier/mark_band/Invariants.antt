-- `grid::verifier::mark_band` meets its contract. The invariant: the numbers of the first 3 * band + row rows are fine, and the array has the marks after them. Assumes nothing.
use mathlib.Core.Bool.{true}
use Prim.Native.Nat.{◌+◌, ◌*◌, ◌≤◌}
use Rattle.grid.specs.code.Standing.{Standing}
use Rattle.grid.proofs.verifier.mark_band.Given as goal

abbrev pub invariant-loop-row : goal.invariant-loop-row
invariant-loop-row l = (l.row ≤ 3) × Standing l.grid (9 * (3 * l.band + l.row)) true l.marks
