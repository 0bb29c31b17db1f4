-- `table_text::push_rows` meets its contract. The invariant: the rows that are left still make the whole. Assumes nothing.
use mathlib.Core.Path.{◌≡◌}
use Prim.Native.Nat.{ℕ, ◌-◌}
use Rattle.steps.specs.Loops.{each, for, range}
use Rattle.table_text.specs.Tables.{row_line}
use Rattle.table_text.specs.declared.Table.{Table}
use Rattle.output.specs.declared.Pen.{Pen}
use Rattle.output.specs.code.Tapes.{append}
use Rattle.output.specs.code.Pens.{writes}
use Rattle.table_text.specs.code.Pushes.{scope_of, in_row, rows_of}
use Rattle.table_text.proofs.push_rows.Given as goal

-- one turn of the loop
abbrev pub turn : {room : ℕ} → Table → ℕ → Pen room → Pen room
turn {room} table row p = writes (append room (row_line (in_row (scope_of table row)))) p

abbrev pub invariant-loop-row : goal.invariant-loop-row
invariant-loop-row l = each (turn l.table) (range (l.rows - l.row) l.row) l.text ≡ writes (append 7515 (for (rows_of l.table l.rows) row_line)) l.initial.text
