use mathlib.Core.Path.{refl}
use native.Mathlib.Omega.{arith}
use Rattle.grid.proofs.Lists.{turn-done, turns-over}
use Rattle.steps.specs.Chains.{chains}
use Rattle.chains.proofs.chains.Goals as goal

pub loop-digit-init : goal.loop-digit-init
unfolding chains
loop-digit-init c = (omega arith, refl)

pub loop-digit-preserved : goal.loop-digit-preserved
loop-digit-preserved c =
    (omega arith, turn-done _ 9 c.loop-digit.digit (omega arith) c.build_aic_chains_for_digit.ensures c.loop-digit.invariant.1)

pub returns : goal.returns
returns c = turns-over _ 9 c.loop-digit.digit c.loop-digit-test.false c.loop-digit.invariant.1
