-- `cells::unions::several` meets its contract. The invariant: the places that are left still make the whole. Assumes nothing.
use mathlib.Core.Path.{◌≡◌}
use mathlib.Core.List.{List}
use Prim.Native.Nat.{ℕ, ◌-◌, ◌≤◌}
use Rattle.candidates.specs.Masks.{union}
use Rattle.steps.specs.Boards.{at}
use Rattle.steps.specs.Loops.{each, range}
use Rattle.cells.specs.code.Unions.{several_in, several_of}
use Rattle.cells.proofs.unions.several.Given as goal

-- one turn of the loop
abbrev pub turn : List ℕ → ℕ → ℕ → ℕ
turn nine i k = union k (several_in (at nine i))

abbrev pub invariant-loop-mask : goal.invariant-loop-mask
invariant-loop-mask l = (l.mask-index ≤ 9) × (each (turn l.nine) (range (9 - l.mask-index) l.mask-index) l.held ≡ several_of l.nine)
