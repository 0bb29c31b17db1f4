-- `card::lines::number_line` meets its contract. Assumes nothing.
use Rattle.output.specs.Decimals.{decimal}
use Rattle.card.proofs.Joins.{line-joined}
use Rattle.card.proofs.lines.number_line.Goals as goal

pub returns : goal.returns
returns c =
    line-joined c.args.label.now (decimal c.args.n) c.args.lines.now c.push_word.ensures c.push_number.ensures c.push.ensures
