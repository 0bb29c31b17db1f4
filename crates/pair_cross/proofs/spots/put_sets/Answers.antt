use mathlib.Core.Path.{refl}
use native.Mathlib.Omega.{arith}
use Rattle.grid.proofs.Lists.{turn-done, turns-over}
use Rattle.pair_cross.specs.code.Spots.{sets_put}
use Rattle.pair_cross.proofs.spots.put_sets.Invariants.{turn}
use Rattle.pair_cross.proofs.spots.put_sets.Goals as goal

pub loop-digit-init : goal.loop-digit-init
unfolding sets_put
loop-digit-init c = refl

pub loop-digit-preserved : goal.loop-digit-preserved
loop-digit-preserved c =
    let l = c.loop-digit in
    let a = c.args in
    turn-done (turn a.line a.sets.now) 16 l.digit (omega arith) refl l.invariant

pub returns : goal.returns
returns c =
    let a = c.args in
    turns-over (turn a.line a.sets.now) 16 c.loop-digit.digit c.loop-digit-test.false c.loop-digit.invariant
