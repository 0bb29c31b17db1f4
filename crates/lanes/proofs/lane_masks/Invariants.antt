-- `lanes::lane_masks` meets its contract. The invariant: the places that are left still make the whole. Assumes nothing.
use mathlib.Core.Path.{◌≡◌}
use Rattle.grid.proofs.Fills.{filled}
use Rattle.lanes.specs.code.Lanes.{lane_at, lane_masks}
use Rattle.lanes.proofs.lane_masks.Given as goal

abbrev pub invariant-loop-place : goal.invariant-loop-place
invariant-loop-place l = filled (lane_at l.lanes l.lane) 9 l.place l.mask-items ≡ lane_masks l.lanes l.lane
