use native.Mathlib.Omega.{arith}
use Rattle.pair_cross.proofs.SpotLines.{written_on}
use Rattle.pair_cross.proofs.spots.digit_lanes.Goals as goal

pub loop-line-preserved : goal.loop-line-preserved
loop-line-preserved c =
    let l = c.loop-line in
    let a = c.args in
    written_on a.lanes.now a.first (omega arith) l.invariant c.spot_sets-sets.ensures c.put_sets.ensures
