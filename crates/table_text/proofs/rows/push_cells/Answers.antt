use mathlib.Core.Path.{sym, ◌∙◌}
use Rattle.grid.specs.code.Scopes.{in_scope}
use Rattle.table_text.proofs.Numbers.{whole, taken, passed, row-over}
use Rattle.table_text.proofs.rows.push_cells.Goals.{else-in_scope, then-in_scope}
use Rattle.table_text.proofs.rows.push_cells.Goals as goal

pub loop-cell-init : goal.loop-cell-init
loop-cell-init c = whole c.args.scope c.args.text.now

pub loop-cell-preserved : goal.loop-cell-preserved
loop-cell-preserved c =
    let l = c.loop-cell in
    let f = in_scope c.args.scope in
    let test = sym c.in_scope.ensures in
    elim c.if-in_scope.branch [ then-in_scope w ↦ rw (w.first-is, w.text-is) (taken f l.cell l.first l.text c.loop-cell-test.true (test ∙ w.if-in_scope.true) w.push_entry.ensures) | else-in_scope w ↦ rw (w.first-is, w.text-is) (passed f l.cell l.first l.text c.loop-cell-test.true (test ∙ w.if-in_scope.false)) ]
    ∙ l.invariant

pub returns : goal.returns
returns c =
    row-over (in_scope c.args.scope) c.loop-cell.cell c.loop-cell.first c.loop-cell.text c.loop-cell-test.false ∙ c.loop-cell.invariant
