-- `locked::rests::first_due` meets its contract. Assumes nothing.
use native.Mathlib.Omega.{arith}
use Rattle.locked.proofs.FirstDue.{none-nine, none_then}
use Rattle.locked.proofs.rests.first_due.Goals as goal

pub returns-then-boxes : goal.returns-then-boxes
returns-then-boxes c =
    rw c.if-boxes.true (none-nine _ 18 c.nine_due-due.ensures c.first_some.ensures (omega (arith, c.unwrap_or.ensures)))

pub returns-in-Some : goal.returns-in-Some
returns-in-Some c =
    rw c.if-boxes.false (none-nine _ 0 c.nine_due-rows.ensures c.in-Some.ensures (omega arith))

pub returns : goal.returns
returns c =
    rw c.if-boxes.false
    (none_then _ (none-nine _ 0 {s = 9} c.nine_due-rows.ensures c.in_default.ensures (omega arith)) (omega arith) (none-nine _ 9 c.nine_due-cols.ensures c.first_some-3.ensures (omega (arith, c.unwrap_or-2.ensures))) (omega arith))
