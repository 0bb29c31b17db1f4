-- `card::layout::verdict_line` meets its contract. Assumes nothing.
use Rattle.card.specs.Cards.{verdict_word}
use Rattle.card.specs.Layout.{verdict_label}
use Rattle.card.proofs.Joins.{line-joined}
use Rattle.card.proofs.layout.verdict_line.Goals as goal

pub returns : goal.returns
returns c =
    line-joined verdict_label (verdict_word c.args.verdict) c.args.lines.now c.push_word.ensures c.push_verdict.ensures c.push.ensures
