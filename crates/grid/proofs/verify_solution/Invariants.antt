-- `grid::verify_solution` meets its contract. The invariant: the numbers of the first bands are fine, and the array has the marks after them. Assumes nothing.
use mathlib.Core.Bool.{true}
use Prim.Native.Nat.{◌*◌, ◌≤◌}
use Rattle.grid.specs.code.Standing.{Standing}
use Rattle.grid.proofs.verify_solution.Given as goal

abbrev pub invariant-loop-band : goal.invariant-loop-band
invariant-loop-band l = (l.band ≤ 3) × Standing l.grid (27 * l.band) true l.marks
