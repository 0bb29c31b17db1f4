-- Masks of one digit, of two and of all the others, as steps read and lose them; masks that share no digit. Assumes nothing.
use mathlib.Core.Path.{◌≡◌, refl, sym, ap, ◌∙◌}
use mathlib.Core.Logic.{◌⊎◌, ◌↔◌, inl, inr, ⊎_elim}
use mathlib.Core.Bool.{Bool, true, false}
use Prim.Native.Nat.{ℕ, ◌-◌, ◌^◌, ◌<◌, min}
use native.Mathlib.Omega.{arith}
use borrow.Author.Tests.{eqb-true, eqb-false}
use lib.Bits.{bit_and, or_lt}
use lib.Dec.{lit<}
use lib.Pow.{pow-lt}
use Rattle.candidates.specs.Masks.{bit, has, minus}
use Rattle.candidates.proofs.Held.{Held, held_all, held_below, held-power, held-minus, held-union, held_both}
use Rattle.candidates.proofs.Membership.{bit-and, bit-minus, bit-none, bit-all, ext}
use Rattle.steps.specs.Instances.{both}

pub both_small : (a b : ℕ) → a < 9 → b < 9 → both a b < 512
both_small a b h k = or_lt 9 (2 ^ a) (2 ^ b) (pow-lt h) (pow-lt k)

pub held_two : (a b d : ℕ) → Held (both a b) d ↔ ((d ≡ a) ⊎ (d ≡ b))
held_two a b d =
    (held_both a b d, λ t. (held-union (2 ^ a) (2 ^ b) d).1 (⊎_elim (λ e. inl ((held-power a d).1 e)) (λ e. inr ((held-power b d).1 e)) t))

-- all digits but those of k
pub bit-outside : (k d : ℕ) → d < 9 → bit (minus 511 k) d ≡ 1 - bit k d
bit-outside k d l = bit-minus 511 k d ∙ ap (λ (n : ℕ). n - bit k d) (bit-all d l)

pub held-except : (k d : ℕ) → Held (minus 511 k) d ↔ ((d < 9) × ¬ (Held k d))
held-except k d = (
  λ t. (held_below 511 9 d (lit< tt) (w.0 t).0, (w.0 t).1),
  λ v. w.1 (held_all d v.0, v.1),
)
  where
    w : Held (minus 511 k) d ↔ (Held 511 d × ¬ (Held k d))
    w = held-minus 511 k d

-- masks that share no digit
pub apart-held : (x k : ℕ) → (bit_and x k ≡ 0) ↔ ((d : ℕ) → Held k d → ¬ (Held x d))
apart-held x k = (there, back)
  where
    there : bit_and x k ≡ 0 → (d : ℕ) → Held k d → ¬ (Held x d)
    there e d t s = omega (arith, bit-and x k d, ap (λ (n : ℕ). bit n d) e, bit-none d, eqb-true (bit x d) 1 s, eqb-true (bit k d) 1 t)

    back : ((d : ℕ) → Held k d → ¬ (Held x d)) → bit_and x k ≡ 0
    back h = ext (bit_and x k) 0 (λ d. bit-and x k d ∙ none d (has x d) (has k d) refl refl ∙ sym (bit-none d))
      where
        none : (d : ℕ) (a b : Bool) → has x d ≡ a → has k d ≡ b → min (bit x d) (bit k d) ≡ 0
        none d true true p q = absurd (h d q p)
        none d true false p q = omega (arith, eqb-false (bit k d) 1 q)
        none d false b p q = omega (arith, eqb-false (bit x d) 1 p)
