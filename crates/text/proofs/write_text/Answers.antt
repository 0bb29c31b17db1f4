-- `text::write_text` meets its contract. Assumes nothing.
use lib.ListN.{length}
use Rattle.text.specs.Texts.{text_of}
use Rattle.text.proofs.Texts.{wrote-all, bytes-written}
use Rattle.text.proofs.write_text.Goals as goal

pub put_text-requires : goal.put_text-requires
put_text-requires c = (wrote-all 81 c.args.grid.now (length c.args.out.now) c.in_ok-count.ensures).1

pub returns : goal.returns
returns c =
    let a = c.args in
    let e = c.in_ok-count.ensures in
    (e, bytes-written 81 a.grid.now (length a.out.now) (text_of a.grid.now) a.out.now e c.put_text.ensures)
