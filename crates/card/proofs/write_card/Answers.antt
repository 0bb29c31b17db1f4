-- `card::write_card` meets its contract: a text that is read has a card, and the card has room. Assumes nothing.
use mathlib.Core.Path.{◌≡◌, ap, ◌∙◌}
use mathlib.Core.List.{List}
use Prim.Native.Nat.{ℕ}
use lib.IntN.{ℤ}
use lib.ListN.{length, take}
use Rattle.std.proofs.Common.{rules}
use Rattle.stops.specs.Answer.{Answer, gives, map}
use Rattle.stops.proofs.Answers.{passed-on}
use Rattle.text.specs.Texts.{parse_of}
use Rattle.card.specs.declared.layout.Card.{Card}
use Rattle.card.specs.Cards.{text_length, card_for, card_of, card_bytes, card_lines}
use Rattle.output.specs.Lent.{over}
use Rattle.output.specs.code.Tapes.{append}
use Rattle.output.specs.code.Pens.{writes}
use Rattle.output.proofs.Pens.{written}
use Rattle.card.proofs.Cards.{read_short}
use Rattle.card.proofs.write_card.Goals as goal

-- what the reader answers, as the answer of the card
card-read : (input : List ℕ) {n : ℕ} {a : Answer (List ℤ)} → n ≡ text_length input → a ≡ parse_of (take n input) → map card_for a ≡ card_of input
unfolding card_of
card-read input is e = ap (map card_for) e ∙ ap (λ (k : ℕ). map card_for (parse_of (take k input))) is

pub returns-in_err-clues : goal.returns-in_err-clues
returns-in_err-clues c =
    let e = card-read c.args.input.now c.length_without-length.ensures c.in_err-clues.ensures in
    (passed-on _ c.from_residual.ensures.1 ∙ ap (map (λ (k : Card). length (card_bytes k))) e, ap (λ (a : Answer Card). over (card_lines a) c.args.out.now) e)

pub returns : goal.returns
returns c =
    let lent = c.args.out.now in
    let e = card-read c.args.input.now c.length_without-length.ensures c.in_ok-clues.ensures in
    let z = c.in_ok-clues.clues in
    let made = c.card_lines.ensures ∙ ap (λ (k : Card). writes (append 256 (card_bytes k)) c.new-lines.result) c.card_of-card.ensures in
    let filled = written (card_bytes (card_for z)) c.new-lines.ensures made (read_short z) in
    let bytes = filled.1 ∙ ap (λ (a : Answer Card). over (card_lines a) lent) e in
    (ap gives filled.2 ∙ ap (map (λ (k : Card). length (card_bytes k))) e, search rules)
