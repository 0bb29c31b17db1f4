-- `lone_place::lones::shared_lanes` meets its contract. The invariant: the lanes that are left still make the whole. Assumes nothing.
use mathlib.Core.Path.{◌≡◌}
use Rattle.grid.proofs.Fills.{filled}
use Rattle.cells.specs.code.Unions.{shared_of}
use Rattle.lanes.specs.code.Lanes.{lane_masks}
use Rattle.lone_place.specs.code.Due.{shared_lanes}
use Rattle.lone_place.proofs.lones.shared_lanes.Given as goal

abbrev pub invariant-loop-lane : goal.invariant-loop-lane
invariant-loop-lane l = filled (λ k. shared_of (lane_masks l.lanes k)) 48 l.lane l.set-items ≡ shared_lanes l.lanes
