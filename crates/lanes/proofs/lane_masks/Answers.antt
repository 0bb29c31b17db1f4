use mathlib.Core.Path.{refl}
use native.Mathlib.Omega.{arith}
use lib.ListN.{replicate}
use Rattle.grid.proofs.Fills.{fill_start, fill_on, fill_end}
use Rattle.lanes.specs.code.Lanes.{lane_masks}
use Rattle.lanes.proofs.lane_masks.Goals as goal

pub loop-place-init : goal.loop-place-init
unfolding lane_masks
loop-place-init c = fill_start _ 9 (replicate 9 0) refl

pub loop-place-preserved : goal.loop-place-preserved
loop-place-preserved c =
    let l = c.loop-place in
    fill_on _ 9 l.place l.mask-items l.invariant (omega arith) refl

pub returns : goal.returns
returns c = fill_end _ 9 c.loop-place.place c.loop-place.mask-items c.loop-place.invariant c.loop-place-test.false
