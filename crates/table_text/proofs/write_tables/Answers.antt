-- `table_text::write_tables` meets its contract: both tables, of as many bytes as are lent. Assumes nothing.
use mathlib.Core.Path.{◌≡◌, ap, ◌∙◌}
use mathlib.Core.List.{List}
use Prim.Native.Nat.{ℕ}
use native.Mathlib.Omega.{arith}
use Rattle.std.proofs.Common.{rules}
use Rattle.output.specs.code.Tapes.{append}
use Rattle.output.specs.code.Pens.{writes}
use Rattle.output.proofs.Pens.{writes-joined, written}
use Rattle.table_text.specs.Tables.{table_lines, units_header, peers_header, tables_text}
use Rattle.table_text.specs.declared.Table.TheVariants as table
use Rattle.table_text.specs.code.Pushes.{rows_of}
use Rattle.table_text.proofs.Texts.{both-tables, text-length}
use Rattle.table_text.proofs.write_tables.Goals as goal

pub returns : goal.returns
returns c =
    let first = table_lines units_header (rows_of table.Units 27) in
    let second = table_lines peers_header (rows_of table.Peers 81) in
    let pen = c.new-pen.result in
    let made : c.push_table-2.new.text ≡ writes (append 7515 tables_text) pen = (
    writes-joined first second pen c.push_table.ensures c.push_table-2.ensures ∙ ap (λ (bs : List ℕ). writes (append 7515 bs) pen) both-tables) in
    let filled = written tables_text c.new-pen.ensures made (omega (arith, text-length)) in
    (search rules, text-length)
