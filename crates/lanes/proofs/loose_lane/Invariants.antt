-- `lanes::loose_lane` meets its contract. The invariant: the places that are left still make the whole. Assumes nothing.
use mathlib.Core.Path.{◌≡◌}
use mathlib.Core.List.{List}
use Prim.Native.Nat.{ℕ, ◌-◌, ◌≤◌}
use lib.Bits.{bit_and}
use Rattle.candidates.specs.Masks.{union}
use Rattle.steps.specs.Loops.{each, range}
use Rattle.lanes.specs.code.Lanes.{lane_at, loose_of}
use Rattle.lanes.proofs.loose_lane.Given as goal

abbrev pub turn : List ℕ → List ℕ → ℕ → ℕ → ℕ → ℕ
turn p q l i k = union k (bit_and (lane_at p l i) (lane_at q l i))

abbrev pub invariant-loop-place : goal.invariant-loop-place
invariant-loop-place l = (l.place ≤ 9) × (each (turn l.lanes l.doors l.lane) (range (9 - l.place) l.place) l.held ≡ loose_of l.lanes l.doors l.lane)
