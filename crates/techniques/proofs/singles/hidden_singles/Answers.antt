use native.Mathlib.Omega.{arith}
use Rattle.grid.proofs.Lists.{turn-done, turns-over}
use Rattle.techniques.proofs.SinglesFound.{units-loop}
use Rattle.techniques.proofs.singles.hidden_singles.Invariants.{turn}
use Rattle.techniques.proofs.singles.hidden_singles.Goals as goal

pub loop-unit-init : goal.loop-unit-init
loop-unit-init c = (omega arith, omega arith, units-loop c.args.givens.now c.args.masks.now c.args.reports.now)

pub loop-unit-preserved : goal.loop-unit-preserved
loop-unit-preserved c =
    let a = c.args in
    let l = c.loop-unit in
    (omega arith, omega (arith, c.hidden_in.ensures.few, l.invariant.1), turn-done (turn a.givens.now a.masks.now) 27 l.unit (omega arith) c.hidden_in.ensures.reports_after l.invariant.2)

pub returns : goal.returns
returns c =
    let a = c.args in
    turns-over (turn a.givens.now a.masks.now) 27 c.loop-unit.unit c.loop-unit-test.false c.loop-unit.invariant.2
