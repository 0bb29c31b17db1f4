use mathlib.Core.Path.{refl}
use native.Mathlib.Numerals.{unary_clauses}
use native.Mathlib.Omega.{arith}
use Rattle.grid.proofs.Lists.{turn-done, turns-over}
use Rattle.locked.specs.code.Rests.{put_rest, put_lane}
use Rattle.locked.proofs.rests.put_lane.Goals as goal

pub loop-nth-init : goal.loop-nth-init
unfolding put_lane
loop-nth-init g c = simp unary_clauses refl

pub loop-nth-preserved : goal.loop-nth-preserved
loop-nth-preserved g c =
    let l = c.loop-nth in
    turn-done (put_rest c.args.nine.now c.args.lane) g.row.COUNT l.nth (omega arith) c.put_rest.ensures l.invariant

pub returns : goal.returns
returns g c = turns-over (put_rest c.args.nine.now c.args.lane) g.row.COUNT c.loop-nth.nth (omega arith) c.loop-nth.invariant
