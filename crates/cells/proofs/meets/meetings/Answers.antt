-- `cells::meets::meetings` meets its contract. Assumes nothing.
use mathlib.Core.Path.{sym}
use Rattle.cells.proofs.Meetings.{three-boxes, six-lines}
use Rattle.cells.proofs.meets.meetings.Goals as goal

pub returns-then-unit-lt18 : goal.returns-then-unit-lt18
returns-then-unit-lt18 c = sym (three-boxes c.if-unit-lt18.true)

pub returns : goal.returns
returns c = sym (six-lines c.if-unit-lt18.false)
