-- `grid::unit_cell` meets its contract: what is worked out is the table. Assumes nothing.
use mathlib.Core.Path.{sym}
use Rattle.grid.proofs.Units.{past-unit, row-cell, col-cell, box-cell, past-cell}
use Rattle.grid.proofs.unit_cell.Goals as goal

pub returns-then-place-ge9 : goal.returns-then-place-ge9
returns-then-place-ge9 c = sym (past-unit c.args.unit c.args.place c.if-place-ge9.true)

pub returns-then-unit-lt9 : goal.returns-then-unit-lt9
returns-then-unit-lt9 c =
    let a = c.args in
    row-cell a.unit a.place c.if-place-ge9.false c.if-unit-lt9.true

pub returns-then-unit-lt18 : goal.returns-then-unit-lt18
returns-then-unit-lt18 c =
    let a = c.args in
    col-cell a.unit a.place c.if-place-ge9.false c.if-unit-lt9.false c.if-unit-lt18.true

pub returns-then-unit-lt27 : goal.returns-then-unit-lt27
returns-then-unit-lt27 c =
    let a = c.args in
    box-cell a.unit a.place c.if-place-ge9.false c.if-unit-lt18.false c.if-unit-lt27.true

pub returns : goal.returns
returns c =
    let a = c.args in
    past-cell a.unit a.place c.if-unit-lt27.false
