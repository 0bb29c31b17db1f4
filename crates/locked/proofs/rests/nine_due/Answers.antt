use mathlib.Core.Path.{refl}
use native.Mathlib.Omega.{arith}
use lib.ListN.{replicate}
use Rattle.grid.proofs.Fills.{fill_start, fill_on, fill_end}
use Rattle.locked.specs.code.Rests.{nine_due}
use Rattle.locked.proofs.rests.nine_due.Goals as goal

pub loop-nth-init : goal.loop-nth-init
unfolding nine_due
loop-nth-init c = fill_start _ 9 (replicate 9 0) refl

pub loop-nth-preserved : goal.loop-nth-preserved
loop-nth-preserved c =
    let l = c.loop-nth in
    fill_on _ 9 l.nth l.digits-items l.invariant (omega arith) c.due_digits.ensures

pub returns : goal.returns
returns c = fill_end _ 9 c.loop-nth.nth c.loop-nth.digits-items c.loop-nth.invariant c.loop-nth-test.false
