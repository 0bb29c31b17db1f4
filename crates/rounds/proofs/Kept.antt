-- What comes of a line by its kept bytes and the length of its grid: each case, as the code finds it. Assumes nothing.
use mathlib.Core.Path.{◌≡◌, refl, sym, ap, ◌∙◌}
use mathlib.Core.Bool.{cond}
use mathlib.Core.List.{List, [], ◌∷◌}
use mathlib.Core.Logic.{◌≢◌}
use Prim.Native.Nat.{ℕ, ◌≤◌, min}
use native.Mathlib.Decide.{dec_le}
use native.Mathlib.Omega.{arith}
use borrow.Author.Tests.{eq-eqb, ne_eqb}
use lib.Dec.{eqb}
use lib.IntN.{ℤ, pos}
use lib.ListN.{length, take}
use lib.Seq.{take_all}
use Rattle.stops.specs.Answer.{Answer, gives, stop}
use Rattle.stops.specs.declared.Stop.TheVariants.{TextLength}
use Rattle.candidates.proofs.Tests.{cond-true, cond-false}
use Rattle.text.specs.Texts.{parse_of}
use Rattle.output.specs.Decimals.{digits_in, decimal}
use Rattle.card.specs.Layout.{line_of, refusal_bytes}
use Rattle.rounds.specs.declared.answers.Checked.{Checked}
use Rattle.rounds.specs.Lines.{bare_length, bare}
use Rattle.rounds.specs.Answers.{check_of}
use Rattle.rounds.specs.Rounds.{Outcome, handed_on, refused, outcome_bytes}
use Rattle.rounds.specs.code.Kept.{answer_after, read_outcome, scored_from, outcome_from}

-- "refused 1 "
abbrev pub refused_one : List ℕ
refused_one = 114 ∷ 101 ∷ 102 ∷ 117 ∷ 115 ∷ 101 ∷ 100 ∷ 32 ∷ 49 ∷ 32 ∷ []

one : decimal 1 ≡ 49 ∷ []
unfolding decimal digits_in
one = refl

pub refused-one : (n : ℕ) → line_of refused_one (decimal n) ≡ refusal_bytes (TextLength (pos n))
unfolding line_of refusal_bytes
refused-one n = rw one

pub shorter : (text : List ℕ) {n : ℕ} → n ≡ min (length text) 81 → take n text ≡ take 81 text
shorter text {n} e = go (dec_le 81 (length text))
  where
    go : Dec (81 ≤ length text) → take n text ≡ take 81 text
    go (yes h) = let s : n ≡ 81 = omega (arith, e) in ap (λ (k : ℕ). take k text) s
    go (no h) = take_all n text (omega (arith, e)) ∙ sym (take_all 81 text (omega arith))

module _ (text : List ℕ) where
  pub read_is : {a : Answer (List ℤ)} → a ≡ parse_of (take 81 text) → read_outcome a (check_of (take 81 text) (answer_after text)) ≡ scored_from text
  unfolding scored_from
  read_is e = ap (λ (a : Answer (List ℤ)). read_outcome a (check_of (take 81 text) (answer_after text))) e

  -- a grid's line has nothing of the input line
  pub scored-bytes : (line : List ℕ) → outcome_bytes [] (scored_from text) ≡ outcome_bytes line (scored_from text)
  unfolding scored_from
  scored-bytes line = go (parse_of (take 81 text)) (check_of (take 81 text) (answer_after text))
    where
      go : (a : Answer (List ℤ)) (k : Checked) → outcome_bytes [] (read_outcome a k) ≡ outcome_bytes line (read_outcome a k)
      go (gives z) k = refl
      go (stop s) k = refl

module _ (kept : List ℕ) (whole : ℕ) where
  abbrev either : Outcome
  either = cond (eqb whole 81) (scored_from (bare kept)) (refused (TextLength (pos whole)))

  pub from-none : bare_length kept ≡ 0 → handed_on ≡ outcome_from kept whole
  unfolding outcome_from
  from-none e = sym (cond-true (eqb (bare_length kept) 0) handed_on either (eq-eqb (bare_length kept) 0 e))

  module _ (some : bare_length kept ≢ 0) where
    from_some : either ≡ outcome_from kept whole
    unfolding outcome_from
    from_some = sym (cond-false (eqb (bare_length kept) 0) handed_on either (ne_eqb (bare_length kept) 0 some))

    pub from-other : whole ≢ 81 → refused (TextLength (pos whole)) ≡ outcome_from kept whole
    from-other n = sym (cond-false (eqb whole 81) (scored_from (bare kept)) (refused (TextLength (pos whole))) (ne_eqb whole 81 n)) ∙ from_some

    pub from-grid : whole ≡ 81 → scored_from (bare kept) ≡ outcome_from kept whole
    from-grid e = sym (cond-true (eqb whole 81) (scored_from (bare kept)) (refused (TextLength (pos whole))) (eq-eqb whole 81 e)) ∙ from_some
