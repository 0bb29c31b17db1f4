-- `cells::meets::box_unit` meets its contract. Assumes nothing.
use mathlib.Core.Path.{sym, ◌∙◌}
use Prim.Native.Nat.{◌+◌, ◌-◌, ◌*◌, ◌/◌}
use native.Mathlib.Omega.{arith}
use borrow.Author.Tests.{lt-ltb, le-ltb}
use lib.Dec.{ltb}
use Rattle.candidates.proofs.Tests.{cond-true, cond-false}
use Rattle.steps.specs.Instances.{box_of}
use Rattle.cells.specs.code.Meets.{box_unit}
use Rattle.cells.proofs.meets.box_unit.Goals as goal

pub returns-then-nth-ge3 : goal.returns-then-nth-ge3
unfolding box_unit
returns-then-nth-ge3 c =
    let a = c.args in
    sym (cond-false (ltb a.nth 3) (box_of a.line a.nth) 27 (le-ltb a.nth 3 c.if-nth-ge3.true))

pub returns-then-line-lt9 : goal.returns-then-line-lt9
unfolding box_unit
returns-then-line-lt9 c =
    let a = c.args in
    sym (cond-true (ltb a.nth 3) (box_of a.line a.nth) 27 (lt-ltb a.nth 3 (omega arith))
    ∙ cond-true (ltb a.line 9) (18 + (3 * (a.line / 3) + a.nth)) (18 + (3 * a.nth + (a.line - 9) / 3)) (lt-ltb a.line 9 c.if-line-lt9.true))

pub returns : goal.returns
unfolding box_unit
returns c =
    let a = c.args in
    sym (cond-true (ltb a.nth 3) (box_of a.line a.nth) 27 (lt-ltb a.nth 3 (omega arith))
    ∙ cond-false (ltb a.line 9) (18 + (3 * (a.line / 3) + a.nth)) (18 + (3 * a.nth + (a.line - 9) / 3)) (le-ltb a.line 9 c.if-line-lt9.false))
