-- Masks of the nine digits, or of the nine places of a unit: what they hold, and which digits lie outside one. Assumes nothing.
use mathlib.Core.Path.{◌≡◌, refl, sym, ap, ◌∙◌, subst}
use mathlib.Core.Logic.{◌≢◌, ◌↔◌, inl, inr, ⊎_elim}
use mathlib.Core.Bool.{Bool, true, false, not, ◌&&◌, ◌||◌, true≢false}
use Prim.Native.Nat.{ℕ, ◌^◌, ◌<◌}
use native.Mathlib.Omega.{arith}
use borrow.Author.Tests.{eq-eqb, eqb-true, eqb-false}
use lib.Bits.{bit_and, and_mask}
use lib.Dec.{eqb, ltb, ltb→lt}
use Rattle.candidates.specs.Masks.{bit, has, minus, union, count, single, place_mask, Sub}
use Rattle.candidates.proofs.FewDigits.{two-count}
use Rattle.candidates.proofs.Held.{Held, none-held, held-ext, held-sub, has-power, has-minus, has-union, held-power, held-union, held_both}
use Rattle.candidates.proofs.Membership.{bit-all, bit-and, bit-union, bit-minus, ext, place-single}
use Rattle.candidates.proofs.Order.{sub-le, sub-all, and-sub, and-only, sub-of-minus, minus-of-sub, union-sub}
use Rattle.candidates.proofs.Tests.{below, bool_iff, both, both_left, both_right}

pub place_is : (d : ℕ) → d < 9 → place_mask d ≡ single d
place_is d h = place-single d (omega arith)

pub only-sub : (d : ℕ) → d < 9 → Sub (2 ^ d) 511
only-sub d h = sub-all (2 ^ d) (ltb→lt (2 ^ d) 512 (below 9 (λ d. ltb (2 ^ d) 512) tt d h))

pub has_both : (a b d : ℕ) → has (union (2 ^ a) (2 ^ b)) d ≡ (eqb d a || eqb d b)
has_both a b d = has-union (2 ^ a) (2 ^ b) d ∙ ap (λ (t : Bool). t || has (2 ^ b) d) (has-power a d) ∙ ap (λ (t : Bool). eqb d a || t) (has-power b d)

pub held-meet : (x y d : ℕ) → Held (bit_and x y) d ↔ (Held x d × Held y d)
held-meet x y d = (λ t. (eq-eqb (bit x d) 1 (left t), eq-eqb (bit y d) 1 (right t)), λ w. eq-eqb (bit (bit_and x y) d) 1 (omega (arith, bit-and x y d, eqb-true (bit x d) 1 w.0, eqb-true (bit y d) 1 w.1)))
  where
    left : Held (bit_and x y) d → bit x d ≡ 1
    left t = omega (arith, bit-and x y d, eqb-true (bit (bit_and x y) d) 1 t)

    right : Held (bit_and x y) d → bit y d ≡ 1
    right t = omega (arith, bit-and x y d, eqb-true (bit (bit_and x y) d) 1 t)

-- a digit that a mask does not hold, as a step has it
pub not-held : (x d : ℕ) → (Held x d → ⊥) → bit_and x (2 ^ d) ≡ 0
not-held x d none = and-only x d (go (has x d) refl)
  where
    go : (t : Bool) → has x d ≡ t → bit x d ≡ 0
    go true t = absurd (none t)
    go false t = omega (arith, eqb-false (bit x d) 1 t)

-- a mask within one digit that lacks it has none
pub only_none : {x : ℕ} (d : ℕ) → Sub x (2 ^ d) → has x d ≡ false → x ≡ 0
only_none {x} d p lacks =
    held-ext x 0 (λ e. (λ t. absurd (true≢false (sym (subst (λ (k : ℕ). Held x k) ((held-power d e).0 (held-sub e p t)) t) ∙ lacks)), λ t. absurd (none-held e t)))

-- ---- the digits outside a mask

pub has-except : (k d : ℕ) → d < 9 → has (minus 511 k) d ≡ not (has k d)
has-except k d h = has-minus 511 k d ∙ ap (λ (t : Bool). t && not (has k d)) (eq-eqb _ 1 (bit-all d h))

-- ---- two digits

pub both_is : (a b : ℕ) → a < 9 → b < 9 → union (place_mask a) (place_mask b) ≡ union (single a) (single b)
both_is a b h l = ap (λ (x : ℕ). union x (place_mask b)) (place_is a h) ∙ ap (union (single a)) (place_is b l)

pub both-sub : (a b : ℕ) → a < 9 → b < 9 → Sub (union (2 ^ a) (2 ^ b)) 511
both-sub a b h l = union-sub (only-sub a h) (only-sub b l)

pub count-both : (a b : ℕ) → a ≢ b → count (union (2 ^ a) (2 ^ b)) ≡ 2
count-both a b n = two-count (record { apart = n; held = λ d. (held_both a b d, λ w. (held-union (2 ^ a) (2 ^ b) d).1 (⊎_elim (λ e. inl ((held-power a d).1 e)) (λ e. inr ((held-power b d).1 e)) w)) })

-- ---- what lies in the nine digits

pub nine-small : (x : ℕ) → x < 2 ^ 9 → bit_and x 511 ≡ x
nine-small x h = and_mask x 9 ∙ omega arith

pub nine-lt : (x : ℕ) → bit_and x 511 < 2 ^ 16
nine-lt x = omega (arith, sub-le (and-sub x 511))

-- no digit of x outside k, as a step has it and as code has it
pub outside-test : (x k : ℕ) → eqb (bit_and x (minus 511 k)) 0 ≡ eqb (minus (bit_and x 511) k) 0
outside-test x k =
    ap (λ (y : ℕ). eqb y 0)
    (ext (bit_and x (minus 511 k)) (minus (bit_and x 511) k) (λ d. omega (arith, bit-and x (minus 511 k) d, bit-minus 511 k d, bit-minus (bit_and x 511) k d, bit-and x 511 d)))

-- a mask that has no digit but d, as a step has it
pub within-only : (x d : ℕ) → eqb (bit_and x (minus 511 (single d))) 0 ≡ true → Sub (bit_and x 511) (single d)
within-only x d t =
    sub-of-minus (bit_and x 511) (single d) (eqb-true (minus (bit_and x 511) (single d)) 0 (sym (outside-test x (single d)) ∙ t))

-- nor of y
pub outside-both : (x y k : ℕ) → (eqb (minus (bit_and x 511) k) 0 && eqb (minus (bit_and y 511) k) 0) ≡ eqb (minus (bit_and (union x y) 511) k) 0
outside-both x y k = bool_iff (eqb (minus (bit_and x 511) k) 0 && eqb (minus (bit_and y 511) k) 0) (eqb (minus (bit_and (union x y) 511) k) 0) down up
  where
    part : (z : ℕ) → eqb (minus z k) 0 ≡ true → Sub z k
    part z t = sub-of-minus z k (eqb-true (minus z k) 0 t)

    down : (eqb (minus (bit_and x 511) k) 0 && eqb (minus (bit_and y 511) k) 0) ≡ true → eqb (minus (bit_and (union x y) 511) k) 0 ≡ true
    down t =
        let p = part (bit_and x 511) (both_left (eqb (minus (bit_and x 511) k) 0) (eqb (minus (bit_and y 511) k) 0) t) in
        let q = part (bit_and y 511) (both_right (eqb (minus (bit_and x 511) k) 0) (eqb (minus (bit_and y 511) k) 0) t) in
        eq-eqb (minus (bit_and (union x y) 511) k) 0
        (minus-of-sub (record { at = λ d. omega (arith, bit-and (union x y) 511 d, bit-union x y d, bit-and x 511 d, bit-and y 511 d, p.at d, q.at d) }))

    up : eqb (minus (bit_and (union x y) 511) k) 0 ≡ true → (eqb (minus (bit_and x 511) k) 0 && eqb (minus (bit_and y 511) k) 0) ≡ true
    up t =
        let p = part (bit_and (union x y) 511) t in
        both (eq-eqb (minus (bit_and x 511) k) 0 (minus-of-sub (record { at = λ d. omega (arith, bit-and (union x y) 511 d, bit-union x y d, bit-and x 511 d, p.at d) })))
        (eq-eqb (minus (bit_and y 511) k) 0 (minus-of-sub (record { at = λ d. omega (arith, bit-and (union x y) 511 d, bit-union x y d, bit-and y 511 d, p.at d) })))
