use mathlib.Core.Path.{refl}
use native.Mathlib.Omega.{arith}
use Rattle.grid.proofs.Lists.{turn-done, turns-over}
use Rattle.lanes.specs.code.Lanes.{joined_sets}
use Rattle.lanes.proofs.join_sets.Invariants.{turn}
use Rattle.lanes.proofs.join_sets.Goals as goal

pub loop-set-init : goal.loop-set-init
unfolding joined_sets
loop-set-init c = (omega arith, refl)

pub loop-set-preserved : goal.loop-set-preserved
loop-set-preserved c =
    let l = c.loop-set in
    (omega arith, turn-done (turn c.args.sets.now) 16 l.set-index (omega arith) c.join-held.ensures l.invariant.1)

pub returns : goal.returns
returns c = turns-over (turn c.args.sets.now) 16 c.loop-set.set-index c.loop-set-test.false c.loop-set.invariant.1
