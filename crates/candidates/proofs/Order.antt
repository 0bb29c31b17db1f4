-- The order of masks by their digits, and what losing digits does to it. Assumes nothing.
use mathlib.Core.Path.{◌≡◌, sym, ap, ◌∙◌}
use Prim.Native.Nat.{ℕ, ◌^◌, ◌≤◌, ◌<◌}
use native.Mathlib.Nat.{le_refl, le_trans, le_antisymm}
use native.Mathlib.Decide.{ℕ_discrete, dec_lt}
use native.Mathlib.Omega.{arith}
use borrow.Author.Tests.{le-ltb}
use lib.Bits.{bit_and, and_zero_r}
use lib.Dec.{ltb}
use Rattle.candidates.specs.Masks.{bit, minus, union, single, place_mask, Sub}
use Rattle.candidates.proofs.Membership.{bit-and, bit-union, bit-minus, bit-none, bit-other, bit-all, bit_high, place-single, le-of-bits, ext}
use Rattle.candidates.proofs.Tests.{cond-false}

pub sub_refl : (x : ℕ) → Sub x x
sub_refl x = record { at = λ d. le_refl (bit x d) }

pub sub_trans : {x y z : ℕ} → Sub x y → Sub y z → Sub x z
sub_trans p q = record { at = λ d. le_trans (p.at d) (q.at d) }

pub sub-antisym : {x y : ℕ} → Sub x y → Sub y x → x ≡ y
sub-antisym {x} {y} p q = ext x y (λ d. le_antisymm (p.at d) (q.at d))

pub sub-le : {x y : ℕ} → Sub x y → x ≤ y
sub-le {x} {y} p = le-of-bits x y p.at

pub sub-all : (x : ℕ) → x < 512 → Sub x 511
sub-all x h = record { at = λ d. go d (dec_lt d 9) }
  where
    go : (d : ℕ) → Dec (d < 9) → bit x d ≤ bit 511 d
    go d (yes k) = omega (arith, bit-all d k)
    go d (no k) = omega (arith, bit_high x 9 d h (omega arith))

pub minus-sub : (x k : ℕ) → Sub (minus x k) x
minus-sub x k = record { at = λ d. omega (arith, bit-minus x k d) }

pub minus-mono : {x y : ℕ} (k : ℕ) → Sub x y → Sub (minus x k) (minus y k)
minus-mono {x} {y} k p = record { at = λ d. omega (arith, bit-minus x k d, bit-minus y k d, p.at d) }

-- x holds no digit of k: losing k is no loss
pub minus-none : (x k : ℕ) → bit_and x k ≡ 0 → minus x k ≡ x
minus-none x k e = omega arith

-- what shares no digit stays so as masks shrink
pub apart-sub : {x y : ℕ} (k : ℕ) → Sub x y → bit_and y k ≡ 0 → bit_and x k ≡ 0
apart-sub {x} {y} k p e = ext (bit_and x k) 0 (λ d. omega (arith, bit-and x k d, bit-and y k d, ap (λ (n : ℕ). bit n d) e, bit-none d, p.at d))

pub union_left : (x y : ℕ) → Sub x (union x y)
union_left x y = record { at = λ d. omega (arith, bit-union x y d) }

pub union_right : (x y : ℕ) → Sub y (union x y)
union_right x y = record { at = λ d. omega (arith, bit-union x y d) }

pub sub-none : (x : ℕ) → Sub 0 x
sub-none x = record { at = λ d. omega (arith, bit-none d) }

-- nothing is left without the digits of y: every digit is one of y's
pub sub-of-minus : (x y : ℕ) → minus x y ≡ 0 → Sub x y
sub-of-minus x y e = record { at = λ d. omega (arith, bit-minus x y d, ap (λ (n : ℕ). bit n d) e, bit-none d) }

pub minus-of-sub : {x y : ℕ} → Sub x y → minus x y ≡ 0
minus-of-sub {x} {y} p = ext (minus x y) 0 (λ d. omega (arith, bit-minus x y d, bit-none d, p.at d))

pub and-sub : (x k : ℕ) → Sub (bit_and x k) k
and-sub x k = record { at = λ d. omega (arith, bit-and x k d) }

pub sub-of-and : (x k : ℕ) → bit_and x k ≡ k → Sub k x
sub-of-and x k e = record { at = λ d. omega (arith, bit-and x k d, ap (λ (n : ℕ). bit n d) e) }

pub union-sub : {x y z : ℕ} → Sub x z → Sub y z → Sub (union x y) z
union-sub {x} {y} p q = record { at = λ d. omega (arith, bit-union x y d, p.at d, q.at d) }

-- a mask without d shares nothing with it
pub and-only : (x d : ℕ) → bit x d ≡ 0 → bit_and x (2 ^ d) ≡ 0
and-only x d e = ext (bit_and x (2 ^ d)) 0 (λ k. go k (ℕ_discrete d k))
  where
    go : (k : ℕ) → Dec (d ≡ k) → bit (bit_and x (2 ^ d)) k ≡ bit 0 k
    go k (yes q) = omega (arith, bit-and x (2 ^ d) k, ap (bit x) q, bit-none k)
    go k (no q) = omega (arith, bit-and x (2 ^ d) k, bit-other d k q, bit-none k)

-- no mask in code holds a place past those that it has
pub minus-place : (x d : ℕ) → x < 2 ^ 16 → minus x (place_mask d) ≡ minus x (single d)
minus-place x d h = go (dec_lt d 16)
  where
    go : Dec (d < 16) → minus x (place_mask d) ≡ minus x (single d)
    go (yes l) = ap (minus x) (place-single d l)
    go (no n) =
        ap (minus x) (cond-false (ltb d 16) (single d) 0 (le-ltb d 16 (omega arith)))
        ∙ minus-none x 0 (and_zero_r x)
        ∙ sym (minus-none x (single d) (and-only x d (bit_high x 16 d h (omega arith))))
