use mathlib.Core.Path.{refl, ap, ◌∙◌}
use native.Mathlib.Omega.{arith}
use lib.ListN.{replicate}
use Rattle.grid.proofs.Fills.{fill_start, fill_on, fill_end}
use Rattle.cells.specs.code.Unions.{shared_of}
use Rattle.lone_place.specs.code.Due.{shared_lanes}
use Rattle.lone_place.proofs.lones.shared_lanes.Goals as goal

pub loop-lane-init : goal.loop-lane-init
unfolding shared_lanes
loop-lane-init c = fill_start _ 48 (replicate 48 0) refl

pub loop-lane-preserved : goal.loop-lane-preserved
loop-lane-preserved c =
    let l = c.loop-lane in
    fill_on _ 48 l.lane l.set-items l.invariant (omega arith) (c.shared.ensures ∙ ap shared_of c.lane_masks.ensures)

pub returns : goal.returns
returns c = fill_end _ 48 c.loop-lane.lane c.loop-lane.set-items c.loop-lane.invariant c.loop-lane-test.false
