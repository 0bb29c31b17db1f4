-- `print` meets its contract: what `write_card` wrote, or the refusal's line, is what `printed` says.
use Rattle.std.proofs.Common.{arith, length, sym, ap, ◌∙◌}
use Rattle.stops.specs.Answer.{Answer, answer_of}
use Rattle.card.specs.Cards.{card_of, printed}
use Rattle.card.specs.declared.layout.Card.{Card}
use Rattle.card.proofs.Printed.{card-room, prints-card}
use Rattle.scorecard.proofs.print.Goals as goal

pub returns-in-Ok : goal.returns-in-Ok
returns-in-Ok c =
    let w =
    prints-card (card_of c.args.input.now) c.args.out.now
    (sym (ap answer_of c.in-Ok.is) ∙ c.write_card.ensures.0)
    c.write_card.ensures.1 in
    (w.2, w.3, omega (arith, w.2, ap (λ (q : Answer Card). length (printed q)) w.1, card-room c.args.input.now w.0 w.1))
