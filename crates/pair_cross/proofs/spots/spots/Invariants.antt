-- `pair_cross::spots::spots` meets its contract. The invariant: the places that are left still make the whole. Assumes nothing.
use mathlib.Core.Path.{◌≡◌}
use mathlib.Core.Bool.{cond}
use mathlib.Core.List.{List}
use Prim.Native.Nat.{ℕ, ◌-◌}
use lib.Bits.{bit_and}
use lib.Dec.{eqb}
use Rattle.candidates.specs.Masks.{union, place_mask}
use Rattle.steps.specs.Loops.{each, range}
use Rattle.lanes.specs.code.Lanes.{lane_at}
use Rattle.pair_cross.specs.code.Spots.{spots_of}
use Rattle.pair_cross.proofs.spots.spots.Given as goal

abbrev pub turn : List ℕ → ℕ → ℕ → ℕ → ℕ → ℕ
turn p l one i k = union k (cond (eqb (bit_and (lane_at p l i) one) 0) 0 (place_mask i))

abbrev pub invariant-loop-place : goal.invariant-loop-place
invariant-loop-place l = each (turn l.lanes l.lane l.one) (range (9 - l.place) l.place) l.found ≡ spots_of l.lanes l.lane l.one
