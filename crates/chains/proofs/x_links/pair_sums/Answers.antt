use mathlib.Core.Path.{refl}
use native.Mathlib.Omega.{arith}
use lib.ListN.{replicate}
use Rattle.grid.proofs.Fills.{fill_start, fill_on, fill_end}
use Rattle.chains.specs.code.XLinks.{pair_sums}
use Rattle.chains.proofs.x_links.pair_sums.Goals as goal

pub loop-unit-init : goal.loop-unit-init
unfolding pair_sums
loop-unit-init c = fill_start _ 27 (replicate 27 0) refl

pub loop-unit-preserved : goal.loop-unit-preserved
loop-unit-preserved c =
    fill_on _ 27 c.loop-unit.unit c.loop-unit.sums c.loop-unit.invariant (omega arith) c.pair_sum.ensures

pub returns : goal.returns
returns c = fill_end _ 27 c.loop-unit.unit c.loop-unit.sums c.loop-unit.invariant c.loop-unit-test.false
