use mathlib.Core.Path.{refl}
use native.Mathlib.Omega.{arith}
use Rattle.grid.proofs.Lists.{turn-done, turns-over}
use Rattle.steps.specs.XChains.{x_chains}
use Rattle.chains.proofs.x_chains.x_chains.Goals as goal

pub loop-digit-init : goal.loop-digit-init
unfolding x_chains
loop-digit-init c = (omega arith, refl)

pub loop-digit-preserved : goal.loop-digit-preserved
loop-digit-preserved c =
    (omega arith, turn-done _ 9 c.loop-digit.digit (omega arith) c.x_chain_digit.ensures c.loop-digit.invariant.1)

pub returns : goal.returns
returns c = turns-over _ 9 c.loop-digit.digit c.loop-digit-test.false c.loop-digit.invariant.1
