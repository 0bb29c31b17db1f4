-- `lone_place::lones::due_row` meets its contract. The invariant: the cells that are left still make the whole. Assumes nothing.
use mathlib.Core.Path.{◌≡◌}
use mathlib.Core.List.{List}
use Prim.Native.Nat.{ℕ, ◌+◌, ◌*◌, ◌-◌, ◌≤◌}
use Rattle.candidates.specs.Masks.{union}
use Rattle.steps.specs.Boards.{at}
use Rattle.steps.specs.Loops.{each, range}
use Rattle.lone_place.specs.code.Due.{due_flag, due_row}
use Rattle.lone_place.proofs.lones.due_row.Given as goal

-- one turn of the loop
abbrev pub turn : List ℕ → List ℕ → ℕ → ℕ → ℕ → ℕ
turn m near r k due = union due (due_flag (at m (9 * r + k)) (at near k))

abbrev pub invariant-loop-nth : goal.invariant-loop-nth
invariant-loop-nth l = (l.nth ≤ 9) × (each (turn l.masks l.near l.row) (range (9 - l.nth) l.nth) l.due ≡ due_row l.masks l.near l.row)
