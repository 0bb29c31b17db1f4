-- `pair_cross::lively::lively_lanes` meets its contract. The invariant: the lanes that are left still make the whole. Assumes nothing.
use mathlib.Core.Path.{◌≡◌}
use Prim.Native.Nat.{◌+◌}
use Rattle.grid.proofs.Fills.{filled}
use Rattle.steps.specs.Boards.{at}
use Rattle.lanes.specs.code.Lanes.{lane_masks}
use Rattle.pair_cross.specs.code.Lively.{lively_of, lively_sets}
use Rattle.pair_cross.proofs.lively.lively_lanes.Given as goal

abbrev pub invariant-loop-nth : goal.invariant-loop-nth
invariant-loop-nth l = filled (λ k. lively_of (at (lane_masks l.lanes (l.first + k))) (at l.free k)) 16 l.nth l.set-items ≡ lively_sets l.lanes l.free l.first
