-- A clue as a caller gives it, any signed number: too low, too high, or a digit. Assumes nothing.
use mathlib.Core.Path.{◌≡◌, refl, sym, ap, ◌∙◌}
use mathlib.Core.Bool.{Bool, true, false, not, true≢false}
use Prim.Native.Nat.{◌≤◌, ◌<◌}
use native.Mathlib.Decide.{dec_lt}
use native.Mathlib.Omega.{arith}
use borrow.Author.Tests.{ltb-true, ltb-false, lt-ltb, le-ltb, le-leb, lt-leb}
use lib.Dec.{T, leb, ltb}
use lib.IntN.{ℤ, pos, negsuc, nat_abs}
use lib.Signed.{lt_z, non_neg}
use Rattle.candidates.proofs.Tests.{cond-true, cond-false}
use Rattle.steps.specs.Boards.{digit_of}
use Rattle.steps.specs.Calls.{bad_clue}

pub low : (z : ℤ) → lt_z z (pos 0) ≡ true → bad_clue z ≡ true
low (pos n) t = absurd (omega (arith, ltb-true n 0 t))
low (negsuc n) t = refl

pub high : (z : ℤ) → lt_z z (pos 0) ≡ false → lt_z (pos 9) z ≡ bad_clue z
high (pos n) t = go (dec_lt 9 n)
  where
    go : Dec (9 < n) → ltb 9 n ≡ not (leb n 9)
    go (yes h) = lt-ltb 9 n h ∙ sym (ap not (lt-leb n 9 h))
    go (no h) = le-ltb 9 n (omega arith) ∙ sym (ap not (le-leb n 9 (omega arith)))
high (negsuc n) t = absurd (true≢false t)

pub no_digit_lem : (z : ℤ) → bad_clue z ≡ true → 0 ≡ digit_of z
no_digit_lem (pos n) t = go (leb n 9) refl t
  where
    go : (b : Bool) → leb n 9 ≡ b → not b ≡ true → 0 ≡ digit_of (pos n)
    go true e u = absurd (true≢false (sym u))
    go false e u = sym (cond-false (leb n 9) n 0 e)
no_digit_lem (negsuc n) t = refl

-- 0 to 9
pub record Clue (z : ℤ) : Type 0 where
  pub positive : T (non_neg z)
  pub small : nat_abs z ≤ 9
  pub is : nat_abs z ≡ digit_of z

pub clue : (z : ℤ) → lt_z z (pos 0) ≡ false → lt_z (pos 9) z ≡ false → Clue z
clue (pos n) l h =
    let k : n ≤ 9 = ltb-false 9 n h in
    record { positive = tt; small = k; is = sym (cond-true (leb n 9) n 0 (le-leb n 9 k)) }
clue (negsuc n) l h = absurd (true≢false l)
