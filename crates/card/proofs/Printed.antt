-- What is printed, from what `write_card` and `write_refusal` answer and leave in the lent bytes. Assumes nothing.
use mathlib.Core.Path.{◌≡◌, refl, sym, ap, ◌∙◌, subst}
use mathlib.Core.List.{List}
use Prim.Native.Nat.{ℕ, ◌≤◌}
use lib.IntN.{ℤ}
use lib.ListN.{length}
use Rattle.stops.specs.Answer.{Answer, gives, stop, map}
use Rattle.stops.specs.declared.Stop.{Stop}
use Rattle.stops.proofs.Answers.{gives_same, stop-gives}
use Rattle.text.specs.Texts.{parse_of}
use Rattle.card.specs.declared.layout.Card.{Card}
use Rattle.card.specs.Cards.{text_in, card_for, card_of, card_bytes, card_lines, refusal_line, printed}
use Rattle.output.specs.Lent.{over}
use Rattle.card.proofs.Cards.{read_short}

abbrev written : Answer Card → Answer ℕ
written a = map (λ (card : Card). length (card_bytes card)) a

-- every card has room
module _ (input : List ℕ) where
  pub card-room : (card : Card) → card_of input ≡ gives card → length (card_bytes card) ≤ 256
  unfolding card_of
  card-room card e = go (parse_of (text_in input)) e
    where
      go : (p : Answer (List ℤ)) → map card_for p ≡ gives card → length (card_bytes card) ≤ 256
      go (gives z) e = subst (λ (k : Card). length (card_bytes k) ≤ 256) (gives_same e) (read_short z)
      go (stop s) e = absurd (stop-gives e)

-- the lent bytes before, and after the calls
module _ (a : Answer Card) (lent : List ℕ) {o : List ℕ} where
  pub prints-card : {n : ℕ} → gives n ≡ written a → o ≡ over (card_lines a) lent → (card : Card) × (a ≡ gives card) × (n ≡ length (printed a)) × (o ≡ over (printed a) lent)
  prints-card {n} e f = go a e f
    where
      go : (a : Answer Card) → gives n ≡ written a → o ≡ over (card_lines a) lent → (card : Card) × (a ≡ gives card) × (n ≡ length (printed a)) × (o ≡ over (printed a) lent)
      go (gives card) e f = (card, refl, cc, f)
      go (stop s) e f = absurd (stop-gives (sym e))

  pub prints-refusal : {s : Stop} {r : ℕ} {l : List ℕ} → stop s ≡ written a → o ≡ over (card_lines a) lent → r ≡ length (refusal_line (stop s)) → l ≡ over (refusal_line (stop s)) o → (r ≡ length (printed a)) × (l ≡ over (printed a) lent)
  prints-refusal {s} {r} {l} e f g h = go a e f
    where
      go : (a : Answer Card) → stop s ≡ written a → o ≡ over (card_lines a) lent → (r ≡ length (printed a)) × (l ≡ over (printed a) lent)
      go (gives card) e f = absurd (stop-gives e)
      go (stop t) e f =
          (g ∙ ap (λ (q : Answer ℕ). length (refusal_line q)) e, h ∙ ap (λ (q : Answer ℕ). over (refusal_line q) o) e ∙ ap (over (printed (stop t))) f)
