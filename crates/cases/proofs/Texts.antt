-- What is printed for a text, by what the reader answers: with a final newline, and without one. Assumes nothing.
use mathlib.Core.Path.{◌≡◌, ap, ◌∙◌}
use mathlib.Core.List.{List, [], ◌∷◌}
use Prim.Native.Nat.{ℕ, ◌-◌}
use native.Mathlib.Omega.{arith}
use borrow.Author.Tests.{eq-eqb, ne_eqb}
use lib.Dec.{eqb}
use lib.IntN.{ℤ}
use lib.ListN.{length, get_or, take, length-append}
use lib.Seq.{get_or-append_seam, take-append_seam, take-length}
use Rattle.stops.specs.Answer.{Answer, map}
use Rattle.candidates.proofs.Tests.{cond-true, cond-false}
use Rattle.text.specs.Texts.{parse_of}
use Rattle.card.specs.Cards.{text_in, card_for, card_of, printed}
use Rattle.cases.specs.Bytes.{ended}

abbrev last : List ℕ → ℕ
last text = get_or text (length text - 1) 0

module _ (text : List ℕ) where
  text-unended : (last text ≡ 10 → ⊥) → text_in text ≡ text
  text-unended h = ap (λ (n : ℕ). take n text) (cond-false (eqb (last text) 10) (length text - 1) (length text) (ne_eqb (last text) 10 h)) ∙ take-length text

  past : length (ended text) - 1 ≡ length text
  past = omega (arith, length-append text (10 ∷ []))

  newline : last (ended text) ≡ 10
  newline = rw past (get_or-append_seam text 10 [] 0)

  text-ended : text_in (ended text) ≡ text
  text-ended =
      let less = cond-true (eqb (last (ended text)) 10) (length (ended text) - 1) (length (ended text)) (eq-eqb (last (ended text)) 10 newline) in
      ap (λ (n : ℕ). take n (ended text)) (less ∙ past) ∙ take-append_seam text (10 ∷ [])

  module _ {a : Answer (List ℤ)} (e : parse_of text ≡ a) where
    pub prints : (last text ≡ 10 → ⊥) → printed (card_of text) ≡ printed (map card_for a)
    unfolding card_of
    prints h = ap (λ (t : List ℕ). printed (map card_for (parse_of t))) (text-unended h) ∙ ap (λ (b : Answer (List ℤ)). printed (map card_for b)) e

    pub prints-ended : printed (card_of (ended text)) ≡ printed (map card_for a)
    unfolding card_of
    prints-ended = ap (λ (t : List ℕ). printed (map card_for (parse_of t))) text-ended ∙ ap (λ (b : Answer (List ℤ)). printed (map card_for b)) e
