-- `cells::unions::join_places` meets its contract. The invariant: the places that are left still make the whole. Assumes nothing.
use mathlib.Core.Path.{◌≡◌}
use mathlib.Core.Bool.{cond}
use mathlib.Core.List.{List}
use Prim.Native.Nat.{ℕ, ◌-◌, ◌≤◌}
use Rattle.candidates.specs.Masks.{has, union}
use Rattle.steps.specs.Boards.{at}
use Rattle.steps.specs.Loops.{each, range}
use Rattle.cells.specs.code.Unions.{joined_at}
use Rattle.cells.proofs.unions.join_places.Given as goal

-- one turn of the loop
abbrev pub turn : List ℕ → ℕ → ℕ → ℕ → ℕ
turn nine places i k = union k (cond (has places i) (at nine i) 0)

abbrev pub invariant-loop-place : goal.invariant-loop-place
invariant-loop-place l = (l.place ≤ 9) × (each (turn l.nine l.places) (range (9 - l.place) l.place) l.held ≡ joined_at l.nine l.places)
