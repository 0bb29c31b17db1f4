use mathlib.Core.Path.{refl}
use native.Mathlib.Omega.{arith}
use Rattle.grid.proofs.Lists.{turn-done, turns-over}
use Rattle.cells.specs.code.Unions.{joined}
use Rattle.cells.proofs.unions.join_all.Invariants.{turn}
use Rattle.cells.proofs.unions.join_all.Goals as goal

pub loop-mask-init : goal.loop-mask-init
unfolding joined
loop-mask-init c = (omega arith, refl)

pub loop-mask-preserved : goal.loop-mask-preserved
loop-mask-preserved c =
    let l = c.loop-mask in
    (omega arith, turn-done (turn c.args.nine.now) 9 l.mask-index (omega arith) c.join-held.ensures l.invariant.1)

pub returns : goal.returns
returns c = turns-over (turn c.args.nine.now) 9 c.loop-mask.mask-index c.loop-mask-test.false c.loop-mask.invariant.1
