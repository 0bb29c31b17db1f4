-- `cells::lose_places` meets its contract. The invariant: the places that are left still make the whole loss, and the flag is up where the masks have changed. Assumes nothing.
use mathlib.Core.Path.{◌≡◌}
use mathlib.Core.Bool.{cond}
use mathlib.Core.List.{List}
use Prim.Native.Nat.{ℕ, ◌-◌, ◌≤◌}
use Rattle.candidates.specs.Masks.{has}
use Rattle.grid.specs.Units.{unit_cell}
use Rattle.steps.specs.Boards.{is_open}
use Rattle.steps.specs.Loops.{each, range}
use Rattle.cells.specs.code.Places.{lose_in, lose_places}
use Rattle.cells.proofs.Losses.{Went}
use Rattle.cells.proofs.lose_places.Given as goal

-- one turn of the loop
abbrev pub turn : List ℕ → ℕ → ℕ → ℕ → ℕ → List ℕ → List ℕ
turn g u places k i m = cond (has places i) (lose_in (is_open g) (unit_cell u i) k m) m

abbrev pub invariant-loop-place : goal.invariant-loop-place
invariant-loop-place l = (l.place ≤ 9) × (each (turn l.givens l.unit l.places l.lost) (range (9 - l.place) l.place) l.masks ≡ lose_places (is_open l.givens) l.unit l.places l.lost l.initial.masks) × Went l.any l.initial.masks l.masks
