-- `lone_place::lones::near_row` meets its contract. The invariant: the cells that are left still make the whole. Assumes nothing.
use mathlib.Core.Path.{◌≡◌}
use Prim.Native.Nat.{◌+◌, ◌*◌, ◌/◌}
use Rattle.candidates.specs.Masks.{union}
use Rattle.grid.proofs.Fills.{filled}
use Rattle.steps.specs.Boards.{at}
use Rattle.lone_place.specs.code.Due.{near_row}
use Rattle.lone_place.proofs.lones.near_row.Given as goal

abbrev pub invariant-loop-nth : goal.invariant-loop-nth
invariant-loop-nth l = filled (λ k. union (union (at l.sets l.row) (at l.sets (16 + k))) (at l.sets (32 + 3 * (l.row / 3) + k / 3))) 16 l.nth l.set-items ≡ near_row l.sets l.row
