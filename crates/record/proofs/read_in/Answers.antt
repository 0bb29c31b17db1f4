-- `record::read_in` meets its contract. Assumes nothing.
use mathlib.Core.Path.{ap, ◌∙◌}
use Rattle.stops.specs.Answer.{map}
use Rattle.stops.proofs.Answers.{passed-on}
use Rattle.board.specs.Boards.{board_of}
use Rattle.record.specs.Records.{clues_from}
use Rattle.record.proofs.SectionsRead.{from-clues, clues-read}
use Rattle.record.proofs.read_in.Goals as goal

pub returns-in_err-next : goal.returns-in_err-next
returns-in_err-next c = ap (map board_of) (passed-on _ c.from_residual.ensures.1) ∙ from-clues c.args.form c.args.bytes.now c.in_err-next.ensures

pub returns : goal.returns
returns c =
    c.read_entered.ensures ∙ clues-read c.args.form c.args.bytes.now c.in_ok-next.ensures (c.clues_from.ensures ∙ ap clues_from c.digits_in-digits.ensures)
