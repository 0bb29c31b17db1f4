-- `text::sheets::write_sheet` meets its contract. Assumes nothing.
use lib.ListN.{length}
use Rattle.text.specs.Sheets.{canonical_sheet}
use Rattle.text.proofs.Texts.{wrote-all, bytes-written}
use Rattle.text.proofs.sheets.write_sheet.Goals as goal

pub put_sheet-requires : goal.put_sheet-requires
put_sheet-requires c = (wrote-all 90 c.args.grid.now (length c.args.out.now) c.in_ok-count.ensures).1

pub returns : goal.returns
returns c =
    let a = c.args in
    let e = c.in_ok-count.ensures in
    (e, bytes-written 90 a.grid.now (length a.out.now) (canonical_sheet a.grid.now) a.out.now e c.put_sheet.ensures)
