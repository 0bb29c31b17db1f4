use mathlib.Core.Path.{refl}
use native.Mathlib.Omega.{arith}
use lib.ListN.{replicate}
use Rattle.grid.proofs.Fills.{fill_start, fill_on, fill_end}
use Rattle.lone_place.specs.code.Due.{place_sets}
use Rattle.lone_place.proofs.places.due_lanes.Goals as goal

pub loop-nth-init : goal.loop-nth-init
unfolding place_sets
loop-nth-init c = fill_start _ 16 (replicate 16 0) refl

pub loop-nth-preserved : goal.loop-nth-preserved
loop-nth-preserved c =
    let l = c.loop-nth in
    fill_on _ 16 l.nth l.set-items l.invariant (omega arith) c.due_lane.ensures

pub returns : goal.returns
returns c = fill_end _ 16 c.loop-nth.nth c.loop-nth.set-items c.loop-nth.invariant c.loop-nth-test.false
