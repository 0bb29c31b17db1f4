use mathlib.Core.Path.{ap, ◌∙◌}
use Prim.Native.Nat.{ℕ}
use native.Mathlib.Nat.{sub-zero}
use Rattle.grid.proofs.Lists.{turn-done, turns-over}
use Rattle.grid.specs.declared.scopes.Scope.{Scope}
use Rattle.steps.specs.Loops.{each, range, up_to}
use Rattle.table_text.specs.Tables.{row_line}
use Rattle.output.specs.code.Tapes.{append}
use Rattle.output.specs.code.Pens.{writes}
use Rattle.table_text.specs.code.Pushes.{scope_of, in_row}
use Rattle.table_text.proofs.Texts.{rows-each}
use Rattle.table_text.proofs.push_rows.Invariants.{turn}
use Rattle.table_text.proofs.push_rows.Goals as goal

pub loop-row-init : goal.loop-row-init
loop-row-init c =
    let a = c.args in
    ap (λ (n : ℕ). each (turn a.table) (range n 0) a.text.now) (sub-zero a.rows) ∙ rows-each (λ row. in_row (scope_of a.table row)) (up_to a.rows) a.text.now

pub loop-row-preserved : goal.loop-row-preserved
loop-row-preserved c =
    let a = c.args in
    turn-done (turn a.table) a.rows c.loop-row.row c.loop-row-test.true (c.push_row.ensures ∙ ap (λ (s : Scope). writes (append 7515 (row_line (in_row s))) c.loop-row.text) c.scope.ensures) c.loop-row.invariant

pub returns : goal.returns
returns c = turns-over (turn c.args.table) c.args.rows c.loop-row.row c.loop-row-test.false c.loop-row.invariant
