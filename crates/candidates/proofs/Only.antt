-- The law of `single_candidate`, "the digit, or empty, or several": what each case of its answer says of the set. Assumes nothing.
use mathlib.Core.Path.{◌≡◌, refl, sym, ap, ◌∙◌, subst}
use mathlib.Core.Logic.{◌≢◌}
use mathlib.Core.Bool.{cond, true≢false, false}
use mathlib.Core.Option.{Option, none, some}
use Prim.Native.Nat.{ℕ, suc, ◌+◌, ◌≤◌, ◌<◌}
use native.Mathlib.Nat.{mod-lt}
use native.Mathlib.Numerals.{add-one}
use native.Mathlib.Omega.{arith}
use borrow.Author.Tests.{eqb-true, eqb-false, eq-eqb, ne_eqb}
use lib.Dec.{T, eqb, lit<}
use lib.IntN.{ℤ, pos, nat_abs}
use lib.Signed.{non_neg}
use mir.Syntax.{w8, w32}
use mir.Val.{Fits, SFits, to_z, of_z}
use mir.Facts.{to_z-of_z}
use Rattle.candidates.specs.Masks.{low_nine, has, count, lowest, tail}
use Rattle.candidates.specs.Sets.{only_answer, single_candidate_of, only_of, SingleCandidateSays}
use Rattle.candidates.specs.declared.SingleCandidate.{SingleCandidate}
use Rattle.candidates.specs.declared.SingleCandidate.TheVariants as only
use Rattle.candidates.proofs.Counts.{count_none, count-zero}
use Rattle.candidates.proofs.FewDigits.{One, More, one-count, count-one, more-count, count-more}
use Rattle.candidates.proofs.Held.{has-none, held_below, held-ext, none-held}
use Rattle.candidates.proofs.Tests.{by-test, cond-true, cond-false}

-- z is a digit, and the nine bits of m are its bit alone
pub record Only (m : ℕ) (z : ℤ) : Type 0 where
  pub place : ℕ
  pub below : place < 9
  pub digit : z ≡ pos (suc place)
  pub one : One (low_nine m) place

abbrev pub Says : ℕ → Option ℤ → Type 0
Says m (some z) = Only m z
Says m none = count (low_nine m) ≢ 1

abbrev pub Tells : ℕ → SingleCandidate → Type 0
Tells m (only.Digit z) = Only m z
Tells m only.Empty = count (low_nine m) ≡ 0
Tells m only.Several = 2 ≤ count (low_nine m)

-- neither none nor one
pub two-more : (n : ℕ) → n ≢ 0 → n ≢ 1 → 2 ≤ n
two-more n p q = omega arith

module _ (m : ℕ) where
  small : low_nine m < 512
  small = mod-lt m (lit< tt)

  -- ---- the answer by the number of digits

  pub none-empty : count (low_nine m) ≡ 0 → single_candidate_of m ≡ only.Empty
  none-empty e = cond-true (eqb (count (low_nine m)) 0) only.Empty rest (eq-eqb (count (low_nine m)) 0 e)
    where
      rest : SingleCandidate
      rest = cond (eqb (count (low_nine m)) 1) (only.Digit (pos (lowest (low_nine m) + 1))) only.Several

  some_one : count (low_nine m) ≢ 0 → single_candidate_of m ≡ cond (eqb (count (low_nine m)) 1) (only.Digit (pos (lowest (low_nine m) + 1))) only.Several
  some_one n = cond-false (eqb (count (low_nine m)) 0) only.Empty _ (ne_eqb (count (low_nine m)) 0 n)

  pub one-digit : count (low_nine m) ≡ 1 → single_candidate_of m ≡ only.Digit (pos (lowest (low_nine m) + 1))
  one-digit e = some_one (λ p. omega arith) ∙ cond-true (eqb (count (low_nine m)) 1) (only.Digit (pos (lowest (low_nine m) + 1))) only.Several (eq-eqb (count (low_nine m)) 1 e)

  pub more-several : 2 ≤ count (low_nine m) → single_candidate_of m ≡ only.Several
  more-several h = some_one (λ p. omega arith) ∙ cond-false (eqb (count (low_nine m)) 1) (only.Digit (pos (lowest (low_nine m) + 1))) only.Several (ne_eqb (count (low_nine m)) 1 (λ p. omega arith))

  -- ---- and the set by the answer

  lowest-only : count (low_nine m) ≡ 1 → Only m (pos (lowest (low_nine m) + 1))
  lowest-only e =
      let o = count-one (low_nine m) (omega (arith, small)) e in
      record { place = lowest (low_nine m); below = held_below (low_nine m) 9 (lowest (low_nine m)) small o.held; digit = ap pos (add-one (lowest (low_nine m))); one = o }

  pub single-tells : {r : SingleCandidate} → r ≡ single_candidate_of m → Tells m r
  single-tells e =
      subst (Tells m) (sym e)
      (by-test (Tells m) (eqb (count (low_nine m)) 0) only.Empty (cond (eqb (count (low_nine m)) 1) (only.Digit (pos (lowest (low_nine m) + 1))) only.Several)
      (λ t. eqb-true (count (low_nine m)) 0 t)
      (λ f.
      by-test (Tells m) (eqb (count (low_nine m)) 1) (only.Digit (pos (lowest (low_nine m) + 1))) only.Several
      (λ t. lowest-only (eqb-true (count (low_nine m)) 1 t))
      (λ g. two-more (count (low_nine m)) (eqb-false (count (low_nine m)) 0 f) (eqb-false (count (low_nine m)) 1 g))))

  pub single-says : {o : Option ℤ} → o ≡ only_of m → Says m o
  single-says e = subst (Says m) (sym e) (go (single_candidate_of m) (single-tells refl))
    where
      go : (r : SingleCandidate) → Tells m r → Says m (only_answer r)
      go (only.Digit z) w = w
      go only.Empty w = λ p. omega arith
      go only.Several w = λ p. omega arith

  -- so each answer is given just where it holds of the set
  pub single-candidate-says : SingleCandidateSays m
  single-candidate-says = record { digit = λ d. (λ e. here d (single-tells (sym e)), λ o. one d o); empty = (λ e. nothing (single-tells (sym e)), λ h. none-empty (ap count (none h) ∙ count_none)); several = (λ e. two (single-tells (sym e)), λ w. more-several (more-count w.2)) }
    where
      here : (d : ℕ) → Only m (pos (suc d)) → One (low_nine m) d
      here d w =
          let e : suc d ≡ suc w.place = ap nat_abs w.digit in
          subst (One (low_nine m)) (omega arith) w.one

      one : (d : ℕ) → One (low_nine m) d → single_candidate_of m ≡ only.Digit (pos (suc d))
      one d o =
          let w = lowest-only (one-count o) in
          one-digit (one-count o) ∙ ap only.Digit (w.digit ∙ ap (λ (k : ℕ). pos (suc k)) (o.alone w.place w.one.held))

      nothing : count (low_nine m) ≡ 0 → (d : ℕ) → has (low_nine m) d ≡ false
      nothing e d = ap (λ (x : ℕ). has x d) (count-zero (low_nine m) e) ∙ has-none d

      none : ((d : ℕ) → has (low_nine m) d ≡ false) → low_nine m ≡ 0
      none h = held-ext (low_nine m) 0 (λ d. (λ t. absurd (true≢false (sym t ∙ h d)), λ t. absurd (none-held d t)))

      two : 2 ≤ count (low_nine m) → (a : ℕ) × (b : ℕ) × More (low_nine m) a b
      two h = (lowest (low_nine m), lowest (tail (low_nine m)), count-more (low_nine m) (omega (arith, small)) h)

-- a caller reads the digit that was handed back
pub digit-read : {m : ℕ} {z : ℤ} → Only m z → to_z w32 (of_z w32 z) ≡ z
digit-read w = to_z-of_z (subst (SFits w32) (sym w.digit) (record { sfits = omega (arith, w.below) }))

-- a caller that casts the digit loses nothing; y is the digit as the cast reads it
pub digit-fits : {m : ℕ} {z y : ℤ} → Only m z → y ≡ z → T (non_neg y) × Fits w8 (nat_abs y)
digit-fits w e =
    let p = sym (e ∙ w.digit) in
    (subst (λ (z : ℤ). T (non_neg z)) p tt, subst (λ (z : ℤ). Fits w8 (nat_abs z)) p (record { fits = omega (arith, w.below) }))
