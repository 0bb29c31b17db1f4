-- `table_text::rows::push_row` meets its contract. Assumes nothing.
use Rattle.table_text.specs.code.Pushes.{in_row}
use Rattle.table_text.proofs.Texts.{row-joined}
use Rattle.table_text.proofs.rows.push_row.Goals as goal

pub returns : goal.returns
returns c = row-joined c.args.text.now (in_row c.args.scope) c.push.ensures c.push_cells.ensures c.push_word.ensures
