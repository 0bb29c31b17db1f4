-- `cells::loose_digits` meets its contract. The invariant: the cells that are left still make the whole. Assumes nothing.
use mathlib.Core.Path.{◌≡◌}
use mathlib.Core.List.{List}
use Prim.Native.Nat.{ℕ, ◌-◌, ◌≤◌}
use lib.Bits.{bit_and}
use Rattle.candidates.specs.Masks.{union}
use Rattle.steps.specs.Boards.{at}
use Rattle.steps.specs.Loops.{each, range}
use Rattle.cells.specs.code.Places.{door_at, loose_digits}
use Rattle.cells.proofs.loose_digits.Given as goal

-- one turn of the loop
abbrev pub turn : List ℕ → List ℕ → ℕ → ℕ → ℕ
turn g m c k = union k (bit_and (at m c) (door_at g c))

abbrev pub invariant-loop-cell : goal.invariant-loop-cell
invariant-loop-cell l = (l.cell ≤ 81) × (each (turn l.givens l.masks) (range (81 - l.cell) l.cell) l.held ≡ loose_digits l.givens l.masks)
