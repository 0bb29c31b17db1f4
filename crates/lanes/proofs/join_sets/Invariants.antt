-- `lanes::join_sets` meets its contract. The invariant: the sets that are left still make the whole. Assumes nothing.
use mathlib.Core.Path.{◌≡◌}
use mathlib.Core.List.{List}
use Prim.Native.Nat.{ℕ, ◌-◌, ◌≤◌}
use Rattle.candidates.specs.Masks.{union}
use Rattle.steps.specs.Boards.{at}
use Rattle.steps.specs.Loops.{each, range}
use Rattle.lanes.specs.code.Lanes.{joined_sets}
use Rattle.lanes.proofs.join_sets.Given as goal

abbrev pub turn : List ℕ → ℕ → ℕ → ℕ
turn sets i k = union k (at sets i)

abbrev pub invariant-loop-set : goal.invariant-loop-set
invariant-loop-set l = (l.set-index ≤ 16) × (each (turn l.sets) (range (16 - l.set-index) l.set-index) l.held ≡ joined_sets l.sets)
