-- `cells::meets::line_unit` meets its contract. Assumes nothing.
use mathlib.Core.Path.{sym, ◌∙◌}
use mathlib.Core.Bool.{cond}
use Prim.Native.Nat.{◌+◌, ◌*◌, ◌/◌, ◌%◌, ◌-◌}
use native.Mathlib.Omega.{arith}
use borrow.Author.Tests.{lt-ltb, le-ltb}
use lib.Dec.{ltb}
use Rattle.candidates.proofs.Tests.{cond-true, cond-false}
use Rattle.steps.specs.Instances.{line_of}
use Rattle.cells.specs.code.Meets.{line_unit}
use Rattle.cells.proofs.meets.line_unit.Goals as goal

pub returns-then-block-ge9 : goal.returns-then-block-ge9
unfolding line_unit
returns-then-block-ge9 c =
    let a = c.args in
    sym (cond-false (ltb a.block 9) (cond (ltb a.nth 6) (line_of a.block a.nth) 27) 27 (le-ltb a.block 9 c.if-block-ge9.true))

pub returns-then-nth-lt3 : goal.returns-then-nth-lt3
unfolding line_unit
returns-then-nth-lt3 c =
    let a = c.args in
    sym (cond-true (ltb a.block 9) (cond (ltb a.nth 6) (line_of a.block a.nth) 27) 27 (lt-ltb a.block 9 (omega arith))
    ∙ cond-true (ltb a.nth 6) (line_of a.block a.nth) 27 (lt-ltb a.nth 6 (omega arith))
    ∙ cond-true (ltb a.nth 3) (3 * (a.block / 3) + a.nth) (9 + (3 * (a.block % 3) + (a.nth - 3))) (lt-ltb a.nth 3 c.if-nth-lt3.true))

pub returns-then-nth-lt6 : goal.returns-then-nth-lt6
unfolding line_unit
returns-then-nth-lt6 c =
    let a = c.args in
    sym (cond-true (ltb a.block 9) (cond (ltb a.nth 6) (line_of a.block a.nth) 27) 27 (lt-ltb a.block 9 (omega arith))
    ∙ cond-true (ltb a.nth 6) (line_of a.block a.nth) 27 (lt-ltb a.nth 6 (omega arith))
    ∙ cond-false (ltb a.nth 3) (3 * (a.block / 3) + a.nth) (9 + (3 * (a.block % 3) + (a.nth - 3))) (le-ltb a.nth 3 c.if-nth-lt3.false))

pub returns : goal.returns
unfolding line_unit
returns c =
    let a = c.args in
    sym (cond-true (ltb a.block 9) (cond (ltb a.nth 6) (line_of a.block a.nth) 27) 27 (lt-ltb a.block 9 (omega arith))
    ∙ cond-false (ltb a.nth 6) (line_of a.block a.nth) 27 (le-ltb a.nth 6 c.if-nth-lt6.false))
