-- `locked::rests::due_digits` meets its contract. Assumes nothing.
use mathlib.Core.Path.{sym, ◌∙◌}
use mathlib.Core.Bool.{cond}
use Prim.Native.Nat.{◌-◌}
use borrow.Author.Tests.{lt-ltb, le-ltb}
use lib.Dec.{ltb}
use Rattle.candidates.proofs.Tests.{cond-true, cond-false}
use Rattle.locked.specs.code.Rests.{row_due, col_due, box_due, unit_due}
use Rattle.locked.proofs.rests.due_digits.Goals as goal

pub returns-then-unit-lt9 : goal.returns-then-unit-lt9
unfolding unit_due
returns-then-unit-lt9 c =
    let a = c.args in
    c.row_due.ensures ∙ sym (cond-true (ltb a.unit 9) (row_due a.rests.now a.unit) (cond (ltb a.unit 18) (col_due a.rests.now (a.unit - 9)) (box_due a.rests.now (a.unit - 18))) (lt-ltb a.unit 9 c.if-unit-lt9.true))

pub returns-then-unit-lt18 : goal.returns-then-unit-lt18
unfolding unit_due
returns-then-unit-lt18 c =
    let a = c.args in
    c.col_due.ensures
    ∙ sym (cond-false (ltb a.unit 9) (row_due a.rests.now a.unit) (cond (ltb a.unit 18) (col_due a.rests.now (a.unit - 9)) (box_due a.rests.now (a.unit - 18))) (le-ltb a.unit 9 c.if-unit-lt9.false)
    ∙ cond-true (ltb a.unit 18) (col_due a.rests.now (a.unit - 9)) (box_due a.rests.now (a.unit - 18)) (lt-ltb a.unit 18 c.if-unit-lt18.true))

pub returns : goal.returns
unfolding unit_due
returns c =
    let a = c.args in
    c.box_due.ensures
    ∙ sym (cond-false (ltb a.unit 9) (row_due a.rests.now a.unit) (cond (ltb a.unit 18) (col_due a.rests.now (a.unit - 9)) (box_due a.rests.now (a.unit - 18))) (le-ltb a.unit 9 c.if-unit-lt9.false)
    ∙ cond-false (ltb a.unit 18) (col_due a.rests.now (a.unit - 9)) (box_due a.rests.now (a.unit - 18)) (le-ltb a.unit 18 c.if-unit-lt18.false))
