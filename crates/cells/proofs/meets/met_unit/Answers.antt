-- `cells::meets::met_unit` meets its contract. Assumes nothing.
use mathlib.Core.Path.{sym, ◌∙◌}
use Prim.Native.Nat.{◌-◌}
use borrow.Author.Tests.{lt-ltb, le-ltb}
use lib.Dec.{ltb}
use Rattle.candidates.proofs.Tests.{cond-true, cond-false}
use Rattle.cells.specs.code.Meets.{box_unit, line_unit, met_unit}
use Rattle.cells.proofs.meets.met_unit.Goals as goal

pub returns-then-unit-lt18 : goal.returns-then-unit-lt18
unfolding met_unit
returns-then-unit-lt18 c =
    let a = c.args in
    c.box_unit.ensures ∙ sym (cond-true (ltb a.unit 18) (box_unit a.unit a.nth) (line_unit (a.unit - 18) a.nth) (lt-ltb a.unit 18 c.if-unit-lt18.true))

pub returns : goal.returns
unfolding met_unit
returns c =
    let a = c.args in
    c.line_unit.ensures ∙ sym (cond-false (ltb a.unit 18) (box_unit a.unit a.nth) (line_unit (a.unit - 18) a.nth) (le-ltb a.unit 18 c.if-unit-lt18.false))
