-- `table_text::rows::push_cells` meets its contract. The invariant: the cells that are left still make the row. Assumes nothing.
use mathlib.Core.Path.{◌≡◌}
use Prim.Native.Nat.{◌-◌}
use Rattle.grid.specs.code.Scopes.{in_scope}
use Rattle.steps.specs.Loops.{range, select}
use Rattle.table_text.specs.Tables.{numbers}
use Rattle.output.specs.code.Tapes.{append}
use Rattle.output.specs.code.Pens.{writes}
use Rattle.table_text.specs.code.Pushes.{entries, in_row}
use Rattle.table_text.proofs.rows.push_cells.Given as goal

abbrev pub invariant-loop-cell : goal.invariant-loop-cell
invariant-loop-cell l = writes (append 7515 (entries l.first (select (in_scope l.scope) (range (81 - l.cell) l.cell)))) l.text ≡ writes (append 7515 (numbers (in_row l.scope))) l.initial.text
