-- The byte of a cell, as the code reads it through the candidate set. Assumes nothing.
use mathlib.Core.Path.{◌≡◌, sym, ap, ◌∙◌}
use mathlib.Core.Logic.{◌≢◌}
use Prim.Native.Nat.{ℕ}
use native.Mathlib.Omega.{arith}
use borrow.Author.Tests.{eq-eqb, ne_eqb}
use lib.Dec.{eqb}
use lib.IntN.{nat_abs}
use Rattle.candidates.specs.Masks.{low_nine, count}
use Rattle.candidates.specs.Sets.{only_answer, only_of, single_candidate_of}
use Rattle.candidates.specs.declared.SingleCandidate.{SingleCandidate}
use Rattle.candidates.specs.declared.SingleCandidate.TheVariants as only
use Rattle.candidates.proofs.FewDigits.{one-count}
use Rattle.candidates.proofs.Only.{Tells, single-tells}
use Rattle.candidates.proofs.Tests.{cond-true, cond-false}
use Rattle.output.specs.Decimals.{digit_byte}
use Rattle.card.specs.Layout.{only_byte, cell_byte}

-- the byte of each answer
abbrev pub byte_said : SingleCandidate → ℕ
byte_said (only.Digit z) = digit_byte (nat_abs z)
byte_said only.Empty = 33
byte_said only.Several = 46

module _ (m : ℕ) where
  some : count (low_nine m) ≢ 0 → only_byte (only_of m) ≡ cell_byte m
  unfolding cell_byte
  some n = sym (cond-false (eqb (count (low_nine m)) 0) 33 (only_byte (only_of m)) (ne_eqb (count (low_nine m)) 0 n))

  none : count (low_nine m) ≡ 0 → 33 ≡ cell_byte m
  unfolding cell_byte
  none e = sym (cond-true (eqb (count (low_nine m)) 0) 33 (only_byte (only_of m)) (eq-eqb (count (low_nine m)) 0 e))

  pub cell-said : (r : SingleCandidate) → r ≡ single_candidate_of m → byte_said r ≡ cell_byte m
  cell-said r e = go r e (single-tells m e)
    where
      go : (r : SingleCandidate) → r ≡ single_candidate_of m → Tells m r → byte_said r ≡ cell_byte m
      go (only.Digit z) e w = ap (λ (r : SingleCandidate). only_byte (only_answer r)) e ∙ some (λ n. omega (arith, one-count w.one))
      go only.Empty e w = none w
      go only.Several e w = ap (λ (r : SingleCandidate). only_byte (only_answer r)) e ∙ some (λ n. omega arith)
