use native.Mathlib.Omega.{arith}
use Rattle.lanes.proofs.Spots.{partly-on}
use Rattle.lanes.proofs.put_row.Goals as goal

pub loop-col-preserved : goal.loop-col-preserved
loop-col-preserved c =
    let l = c.loop-col in
    let a = c.args in
    (omega arith, partly-on (omega arith) (omega arith) l.invariant.1 c.put.ensures)
