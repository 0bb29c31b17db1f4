-- `lone_place::places::due_lanes` meets its contract. The invariant: the lanes that are left still make the whole. Assumes nothing.
use mathlib.Core.Path.{◌≡◌}
use Prim.Native.Nat.{◌+◌}
use Rattle.grid.proofs.Fills.{filled}
use Rattle.steps.specs.Boards.{at}
use Rattle.lanes.specs.code.Lanes.{lane_masks}
use Rattle.lone_place.specs.code.Due.{place_due, place_sets}
use Rattle.lone_place.proofs.places.due_lanes.Given as goal

abbrev pub invariant-loop-nth : goal.invariant-loop-nth
invariant-loop-nth l = filled (λ k. place_due (lane_masks l.lanes (l.first + k)) (at l.free k)) 16 l.nth l.set-items ≡ place_sets l.lanes l.free l.first
