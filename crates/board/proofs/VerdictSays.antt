-- What a verdict says, wherever the correct fillings in the masks are those that count. Assumes nothing.
use mathlib.Core.Path.{◌≡◌, refl, sym, ap, ◌∙◌, subst}
use mathlib.Core.Logic.{◌≢◌, ◌⊎◌, ◌↔◌, inl, inr, ⊎_elim}
use mathlib.Core.Bool.{Bool, true, false, cond, not, true≢false}
use mathlib.Core.List.{List}
use Prim.Native.Nat.{ℕ, suc, ◌<◌}
use native.Mathlib.Omega.{arith}
use borrow.Author.Tests.{eqb-true, ne_eqb}
use lib.Dec.{eqb}
use lib.IntN.{ℤ, pos}
use lib.ListN.{length}
use lib.Seq.{ext_get_or}
use Rattle.candidates.specs.Masks.{has, low_nine, count}
use Rattle.candidates.specs.Sets.{place, only_answer, only_of, digit_or0}
use Rattle.candidates.specs.declared.SingleCandidate.{SingleCandidate}
use Rattle.candidates.proofs.Counts.{count-zero}
use Rattle.candidates.proofs.Held.{none-held}
use Rattle.candidates.proofs.Membership.{bit-nine}
use Rattle.candidates.proofs.Only.{Only, one-digit, single-tells}
use Rattle.candidates.proofs.Places.{place-pos}
use Rattle.grid.specs.Cells.{cells}
use Rattle.grid.specs.Fillings.{number_at, Correct, verified}
use Rattle.grid.proofs.Cells.{at_cells, cells-size}
use Rattle.grid.proofs.Fillings.{number_of, place-lt, verified-correct, correct-verified}
use Rattle.steps.specs.Boards.{at}
use Rattle.steps.specs.Fillings.{InMasks}
use Rattle.grid.proofs.Lists.{all-member, member-all, range-mem, mem-range}
use Rattle.board.specs.Boards.{all_single, none_empty, only_digits, verdict_of}
use Rattle.board.specs.Verdicts.{OneSolution, VerdictSays}
use Rattle.board.specs.declared.Verdict.{Verdict}
use Rattle.board.specs.declared.Verdict.TheVariants.{Dead, Finished, Open}

-- ---- which test gave the verdict

abbrev said : Bool → Bool → Bool → Verdict
said some single right = cond some (cond single (cond right Finished Dead) Open) Dead

dead-finished : Dead ≡ Finished → ⊥
dead-finished e = let z : ◌≡◌ {A = ℕ} 0 1 = cc in omega arith

finished-by : (a b c : Bool) → said a b c ≡ Finished → (b ≡ true) × (c ≡ true)
finished-by true true true e = (refl, refl)
finished-by true true false e = absurd (dead-finished e)
finished-by true false c e = absurd (dead-finished (cc))
finished-by false b c e = absurd (dead-finished e)

dead-by : (a b c : Bool) → said a b c ≡ Dead → (a ≡ false) ⊎ ((b ≡ true) × (c ≡ false))
dead-by true true true e = absurd (dead-finished (sym e))
dead-by true true false e = inr (refl, refl)
dead-by true false c e = absurd (dead-finished (cc))
dead-by false b c e = inl refl

-- ---- the digits of the cells

nine-has : (x d : ℕ) → d < 9 → has (low_nine x) d ≡ has x d
nine-has x d h = ap (λ (b : ℕ). eqb b 1) (bit-nine x d h)

module _ (m : List ℕ) where
  digit_at : (c : ℕ) → c < 81 → number_at (only_digits m) c ≡ digit_or0 (only_of (at m c))
  unfolding only_digits
  digit_at c h = at_cells (pos 0) (λ c. digit_or0 (only_of (at m c))) c h

  digits-size : length (only_digits m) ≡ 81
  unfolding only_digits
  digits-size = cells-size (λ c. digit_or0 (only_of (at m c)))

  module _ (full : all_single m ≡ true) where
    one : (c : ℕ) → c < 81 → count (low_nine (at m c)) ≡ 1
    unfolding cells
    one c h = eqb-true (count (low_nine (at m c))) 1 (all-member (λ c. eqb (count (low_nine (at m c))) 1) cells full c (range-mem 81 0 c (omega arith) (omega arith)))

    says : (c : ℕ) → c < 81 → Only (at m c) (number_at (only_digits m) c)
    says c h =
        let e = one-digit (at m c) (one c h) in
        subst (Only (at m c)) (sym (digit_at c h ∙ ap (λ (r : SingleCandidate). digit_or0 (only_answer r)) e)) (single-tells (at m c) (sym e))

    digits_in : InMasks m (only_digits m)
    digits_in = record { held = held }
      where
        held : (c : ℕ) → c < 81 → has (at m c) (place (number_at (only_digits m) c)) ≡ true
        held c h =
            let w = says c h in
            let p : place (number_at (only_digits m) c) ≡ w.place = ap place w.digit ∙ place-pos (suc w.place) (omega arith) (omega (arith, w.below)) ∙ omega arith in
            ap (has (at m c)) p ∙ sym (nine-has (at m c) w.place w.below) ∙ w.one.held

    -- a correct filling in the masks has these digits
    digits-only : (f : List ℤ) → Correct f → InMasks m f → f ≡ only_digits m
    digits-only f right inside = ext_get_or (pos 0) f (only_digits m) (right.size ∙ sym digits-size) (λ c k. same c (omega (arith, right.size)))
      where
        same : (c : ℕ) → c < 81 → number_at f c ≡ number_at (only_digits m) c
        same c h =
            let w = says c h in
            let small = place-lt (right.digits c h) in
            let e = w.one.alone (place (number_at f c)) (nine-has (at m c) (place (number_at f c)) small ∙ inside.held c h) in
            number_of (number_at f c) w.place e w.below ∙ sym w.digit

  -- a correct filling in the masks: no cell is empty
  none-is-empty : (f : List ℤ) → Correct f → InMasks m f → none_empty m ≡ true
  unfolding cells
  none-is-empty f right inside = member-all (λ c. not (eqb (count (low_nine (at m c))) 0)) cells (λ c k. ap not (ne_eqb (count (low_nine (at m c))) 0 (some c (mem-range 81 0 c k).1)))
    where
      some : (c : ℕ) → c < 81 → count (low_nine (at m c)) ≢ 0
      some c h e =
          let d = place (number_at f c) in
          let held = nine-has (at m c) d (place-lt (right.digits c h)) ∙ inside.held c h in
          none-held d (subst (λ (x : ℕ). has x d ≡ true) (count-zero (low_nine (at m c)) e) held)

  pub verdict-says : (kept : List ℤ → Type 0) → ((f : List ℤ) → length f ≡ 81 → verified f ≡ true → InMasks m f ↔ kept f) → VerdictSays kept m
  unfolding verdict_of
  verdict-says kept fillings = record { finished = finished; dead = dead }
    where
      inside : (f : List ℤ) → Correct f → kept f → InMasks m f
      inside f right k = (fillings f right.size (correct-verified f right)).1 k

      finished : verdict_of m ≡ Finished → OneSolution kept (only_digits m)
      finished e =
          let w = finished-by (none_empty m) (all_single m) (verified (only_digits m)) e in
          record {
            correct = verified-correct (only_digits m) digits-size w.1;
            keeps = (fillings (only_digits m) digits-size w.1).0 (digits_in w.0);
            only = λ f right k. digits-only w.0 f right (inside f right k);
          }

      dead : verdict_of m ≡ Dead → (f : List ℤ) → Correct f → ¬ (kept f)
      dead e f right k =
          ⊎_elim (λ n. true≢false (sym (none-is-empty f right (inside f right k)) ∙ n))
          (λ n. true≢false (sym (correct-verified f right) ∙ ap verified (digits-only n.0 f right (inside f right k)) ∙ n.1))
          (dead-by (none_empty m) (all_single m) (verified (only_digits m)) e)
