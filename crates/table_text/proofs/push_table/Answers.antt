-- `table_text::push_table` meets its contract. Assumes nothing.
use Rattle.table_text.specs.code.Pushes.{rows_of}
use Rattle.table_text.proofs.Texts.{table-joined}
use Rattle.table_text.proofs.push_table.Goals as goal

pub returns : goal.returns
returns c =
    let a = c.args in
    table-joined a.text.now a.header.now (rows_of a.table a.rows) c.push_word.ensures c.push_rows.ensures c.push_word-2.ensures
