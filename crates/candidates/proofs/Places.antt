-- The place of a digit that a caller gives: any signed number. Assumes nothing.
use mathlib.Core.Path.{◌≡◌, refl, sym, ap, ◌∙◌}
use mathlib.Core.Bool.{true, false, true≢false, cond}
use Prim.Native.Nat.{ℕ, zero, suc, ◌-◌, ◌≤◌, ◌<◌}
use native.Mathlib.Omega.{arith}
use borrow.Author.Tests.{ltb-true, ltb-false, lt-ltb, le-ltb}
use lib.Dec.{T, ltb}
use lib.IntN.{ℤ, pos, negsuc, nat_abs}
use lib.Signed.{lt_z, non_neg}
use mir.Syntax.{w32}
use mir.Val.{SFits, to_z, of_z}
use mir.Facts.{to_z-of_z}
use Rattle.stops.specs.Answer.{gives, stop}
use Rattle.stops.specs.declared.Stop.TheVariants.{BadDigit}
use Rattle.candidates.specs.Masks.{single, place_mask}
use Rattle.candidates.specs.Sets.{place, at_digit, where_digit}
use Rattle.candidates.proofs.Membership.{place-single}
use Rattle.candidates.proofs.Tests.{cond-true, cond-false}

pub low : (z : ℤ) → lt_z z (pos 1) ≡ true → 9 ≡ place z
low (pos zero) t = refl
low (pos (suc n)) t = omega (arith, ltb-true (suc n) 1 t)
low (negsuc n) t = refl

pub high : (z : ℤ) → lt_z (pos 9) z ≡ true → 9 ≡ place z
high (pos zero) t = refl
high (pos (suc n)) t = omega (arith, ltb-true 9 (suc n) t)
high (negsuc n) t = refl

pub record Digit (z : ℤ) : Type 0 where
  pub positive : T (non_neg z)
  pub some : 1 ≤ nat_abs z
  pub placed : nat_abs z - 1 ≡ place z

pub digit : (z : ℤ) → lt_z z (pos 1) ≡ false → lt_z (pos 9) z ≡ false → Digit z
digit (pos zero) l h = absurd (true≢false l)
digit (pos (suc n)) l h = record { positive = tt; some = omega arith; placed = omega (arith, ltb-false 9 (suc n) h) }
digit (negsuc n) l h = absurd (true≢false l)

pub place-pos : (n : ℕ) → 1 ≤ n → n ≤ 9 → place (pos n) ≡ n - 1
place-pos zero h k = absurd (omega arith)
place-pos (suc n) h k = omega arith

pub place-le : (z : ℤ) → place z ≤ 9
place-le (pos zero) = omega arith
place-le (pos (suc n)) = omega arith
place-le (negsuc n) = omega arith

-- ---- which answer a call gives, by the place p that `place_of` found for the bits of z

found : (z : ℤ) (p : ℕ) → SFits w32 z → p ≡ place (to_z w32 (of_z w32 z)) → p ≡ place z
found z p f e = e ∙ ap place (to_z-of_z f)

module _ {ℓ} {A : Type ℓ} (z : ℤ) (p : ℕ) (x y : A) (f : SFits w32 z) (e : p ≡ place (to_z w32 (of_z w32 z))) where
  pub accepted : p < 9 → x ≡ cond (ltb (place z) 9) x y
  accepted h = sym (cond-true (ltb (place z) 9) x y (lt-ltb (place z) 9 (omega (arith, found z p f e))))

  pub refused : 9 ≤ p → y ≡ cond (ltb (place z) 9) x y
  refused h = sym (cond-false (ltb (place z) 9) x y (le-ltb (place z) 9 (omega (arith, found z p f e))))

-- what was worked out at the place found holds at the digit's own
pub at_place {ℓ} : {A : Type ℓ} (g : ℕ → A) (z : ℤ) (p : ℕ) → SFits w32 z → p ≡ place (to_z w32 (of_z w32 z)) → g p ≡ g (place z)
at_place g z p f e = ap g (found z p f e)

-- the digit that a refusal hands back is the one that came
pub stops : {A : Type 0} (z : ℤ) (p : ℕ) (a : A) → SFits w32 z → p ≡ place (to_z w32 (of_z w32 z)) → 9 ≤ p → stop (BadDigit (to_z w32 (of_z w32 z))) ≡ at_digit z a
stops z p a f e h = ap (λ (y : ℤ). stop (BadDigit y)) (to_z-of_z f) ∙ refused z p (gives a) (stop (BadDigit z)) f e h

-- an accepted digit's mask k, joined to m or taken from it
pub changes : (op : ℕ → ℕ → ℕ) (m old : ℕ) (z : ℤ) (p k r : ℕ) → SFits w32 z → p ≡ place (to_z w32 (of_z w32 z)) → p < 9 → k ≡ place_mask p → r ≡ op m k → r ≡ where_digit z (op m (single (place z))) old
changes op m old z p k r f e h mask is = is ∙ ap (op m) (mask ∙ place-single p (omega arith)) ∙ at_place (λ (q : ℕ). op m (single q)) z p f e ∙ accepted z p _ old f e h
