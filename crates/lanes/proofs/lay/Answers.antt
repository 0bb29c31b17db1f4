use native.Mathlib.Omega.{arith}
use Rattle.lanes.proofs.Spots.{partly-start}
use Rattle.lanes.proofs.lay.Goals as goal

pub loop-row-init : goal.loop-row-init
loop-row-init c = (omega arith, partly-start c.args.masks.now c.requires)
