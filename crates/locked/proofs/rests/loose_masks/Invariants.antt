-- `locked::rests::loose_masks` meets its contract. The invariant: the places that are left still make the whole. Assumes nothing.
use mathlib.Core.Path.{◌≡◌}
use lib.Bits.{bit_and}
use Rattle.grid.proofs.Fills.{filled}
use Rattle.lanes.specs.code.Lanes.{lane_at}
use Rattle.locked.specs.code.Rests.{loose_masks}
use Rattle.locked.proofs.rests.loose_masks.Given as goal

abbrev pub invariant-loop-place : goal.invariant-loop-place
invariant-loop-place l = filled (λ i. bit_and (lane_at l.lanes l.lane i) (lane_at l.doors l.lane i)) 9 l.place l.held-items ≡ loose_masks l.lanes l.doors l.lane
