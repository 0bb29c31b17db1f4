-- `record::read_entered` meets its contract. Assumes nothing.
use mathlib.Core.Path.{ap, ◌∙◌}
use Rattle.stops.specs.Answer.{map}
use Rattle.stops.proofs.Answers.{passed-on}
use Rattle.board.specs.Boards.{board_of}
use Rattle.record.specs.Records.{clues_from}
use Rattle.record.proofs.SectionsRead.{from-entered, entered-read}
use Rattle.record.proofs.read_entered.Goals as goal

pub returns-in_err-next : goal.returns-in_err-next
returns-in_err-next c =
    let a = c.args in
    ap (map board_of) (passed-on _ c.from_residual.ensures.1) ∙ from-entered a.form a.clues a.bytes.now a.start c.in_err-next.ensures

pub returns : goal.returns
returns c =
    let a = c.args in
    c.read_removed.ensures
    ∙ entered-read a.form a.clues a.bytes.now a.start c.in_ok-next.ensures (c.clues_from.ensures ∙ ap clues_from c.digits_in-digits.ensures)
