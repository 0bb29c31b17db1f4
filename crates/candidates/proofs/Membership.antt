-- Which digits the operations on masks hold, and that a mask is its digits. Assumes nothing.
use mathlib.Core.Path.{◌≡◌, refl, sym, ap, ◌∙◌}
use mathlib.Core.Logic.{◌≢◌}
use mathlib.Core.Bool.{Bool, true, false, cond}
use Prim.Native.Nat.{ℕ, zero, suc, ◌+◌, ◌-◌, ◌*◌, ◌/◌, ◌%◌, ◌^◌, ◌≤◌, ◌<◌, min, max, zero-le}
use native.Mathlib.Nat.{le_refl, add-zero, le_antisymm, le_of_eq, div-eq_of_lt, lt_of_lt_of_le, pow-suc, not-suc-le-zero}
use native.Mathlib.Numerals.{add-one, one-add}
use native.Mathlib.Omega.{arith}
use native.Mathlib.Decide.{ℕ_discrete}
use lib.Arith.{bin_ind, digits_div}
use lib.Bits.{bit_and, bit_or, and_step, or_step, and_shr, or_shr, and_mask, and_le_l, or_shifted_r}
use borrow.Author.Tests.{lt-ltb}
use lib.Dec.{eqb, ltb, eqb→eq, lit<}
use lib.Pow.{pow_mono, shr-shr}
use Rattle.candidates.specs.Masks.{bit, minus, union, single, place_mask, low_nine, gather}
use Rattle.candidates.proofs.Tests.{below, by-test, cond-true}

-- ---- a bit of a half

pub bit-zero : (x : ℕ) → bit x 0 ≡ x % 2
bit-zero x = omega arith

pub bit-suc : (x d : ℕ) → bit x (suc d) ≡ bit (x / 2) d
bit-suc x d = ap (λ (n : ℕ). n % 2) (ap (λ (k : ℕ). x / 2 ^ k) (sym (one-add d)) ∙ sym (shr-shr x 1 d))

-- ---- both, either, without

pub and_low : (a b : ℕ) → bit_and a b % 2 ≡ min (a % 2) (b % 2)
and_low a b = omega (arith, and_step a b)

or-low : (a b : ℕ) → bit_or a b % 2 ≡ max (a % 2) (b % 2)
or-low a b = omega (arith, or_step a b)

pub bit-and : (x y d : ℕ) → bit (bit_and x y) d ≡ min (bit x d) (bit y d)
bit-and x y d = ap (λ (n : ℕ). n % 2) (and_shr x y d) ∙ and_low (x / 2 ^ d) (y / 2 ^ d)

pub bit-union : (x y d : ℕ) → bit (union x y) d ≡ max (bit x d) (bit y d)
bit-union x y d = ap (λ (n : ℕ). n % 2) (or_shr x y d) ∙ or-low (x / 2 ^ d) (y / 2 ^ d)

pub minus-half : (x k : ℕ) → minus x k / 2 ≡ minus (x / 2) (k / 2)
minus-half x k = omega (arith, and_step x k, and_le_l (x / 2) (k / 2))

pub minus-low : (x k : ℕ) → minus x k % 2 ≡ x % 2 - k % 2
minus-low x k = omega (arith, and_step x k, and_le_l (x / 2) (k / 2))

pub bit-minus : (x k d : ℕ) → bit (minus x k) d ≡ bit x d - bit k d
bit-minus x k zero =
    bit-zero (minus x k) ∙ minus-low x k ∙ sym (ap (λ (n : ℕ). n - bit k 0) (bit-zero x) ∙ ap (λ (n : ℕ). x % 2 - n) (bit-zero k))
bit-minus x k (suc d) =
    bit-suc (minus x k) d ∙ ap (λ (n : ℕ). bit n d) (minus-half x k) ∙ bit-minus (x / 2) (k / 2) d
    ∙ sym (ap (λ (n : ℕ). n - bit k (suc d)) (bit-suc x d) ∙ ap (λ (n : ℕ). bit (x / 2) d - n) (bit-suc k d))

-- ---- a mask is its digits

pub le-of-bits : (x y : ℕ) → ((d : ℕ) → bit x d ≤ bit y d) → x ≤ y
le-of-bits =
    bin_ind (λ (x : ℕ). (y : ℕ) → ((d : ℕ) → bit x d ≤ bit y d) → x ≤ y) (λ y h. zero-le)
    (λ x ih y h. halves x y (ih (y / 2) (λ d. up x y d (h (suc d)))) (h 0))
  where
    up : (x y d : ℕ) → bit x (suc d) ≤ bit y (suc d) → bit (x / 2) d ≤ bit (y / 2) d
    up x y d h = omega (arith, bit-suc x d, bit-suc y d)

    halves : (x y : ℕ) → x / 2 ≤ y / 2 → bit x 0 ≤ bit y 0 → x ≤ y
    halves x y h l = omega (arith, bit-zero x, bit-zero y)

pub ext : (x y : ℕ) → ((d : ℕ) → bit x d ≡ bit y d) → x ≡ y
ext x y h = le_antisymm (le-of-bits x y (λ d. le_of_eq (h d))) (le-of-bits y x (λ d. le_of_eq (sym (h d))))

-- ---- no digit, one digit, nine digits

pub bit-none : (d : ℕ) → bit 0 d ≡ 0
bit-none zero = refl
bit-none (suc d) = bit-suc 0 d ∙ bit-none d

pub bit_high : (x n d : ℕ) → x < 2 ^ n → n ≤ d → bit x d ≡ 0
bit_high x n d h k = ap (λ (m : ℕ). m % 2) (div-eq_of_lt (lt_of_lt_of_le h (pow_mono k)))

double : (p : ℕ) → 2 ^ suc p / 2 ≡ 2 ^ p
double p = omega (arith, pow-suc 2 p)

pub place-single : (d : ℕ) → d < 16 → place_mask d ≡ single d
place-single d h = cond-true (ltb d 16) (single d) 0 (lt-ltb d 16 h)

pub bit-power : (d : ℕ) → bit (2 ^ d) d ≡ 1
bit-power zero = refl
bit-power (suc d) = bit-suc (2 ^ suc d) d ∙ ap (λ (n : ℕ). bit n d) (double d) ∙ bit-power d

pub bit-other : (p d : ℕ) → p ≢ d → bit (2 ^ p) d ≡ 0
bit-other zero zero h = absurd (h refl)
bit-other zero (suc d) h = bit-suc 1 d ∙ bit-none d
bit-other (suc p) zero h = omega (arith, bit-zero (2 ^ suc p), pow-suc 2 p)
bit-other (suc p) (suc d) h =
    bit-suc (2 ^ suc p) d ∙ ap (λ (n : ℕ). bit n d) (double p) ∙ bit-other p d (λ e. h (ap suc e))

pub bit-all : (d : ℕ) → d < 9 → bit 511 d ≡ 1
bit-all d h = eqb→eq (bit 511 d) 1 (below 9 (λ (k : ℕ). eqb (bit 511 k) 1) tt d h)

pub bit-nine : (x d : ℕ) → d < 9 → bit (low_nine x) d ≡ bit x d
bit-nine x d h =
    ap (λ (n : ℕ). bit n d) (sym (and_mask x 9)) ∙ bit-and x 511 d ∙ omega (arith, bit-all d h)

-- ---- the places that pass a test

pub gather-lt : (f : ℕ → Bool) (n : ℕ) → gather f n < 2 ^ n
unfolding gather
gather-lt f zero = lit< tt
gather-lt f (suc n) =
    by-test (λ (k : ℕ). gather f n + k < 2 ^ suc n) (f n) (2 ^ n) 0 (λ t. omega (arith, gather-lt f n, pow-suc 2 n))
    (λ t. omega (arith, gather-lt f n, pow-suc 2 n))

-- one more place, above all the others, changes that place alone
bit-above : (x n : ℕ) → x < 2 ^ n → bit (x + 2 ^ n) n ≡ 1
bit-above x n h =
    let e : x + 2 ^ n ≡ 1 * 2 ^ n + x = omega arith in
    ap (λ (k : ℕ). k / 2 ^ n % 2) e ∙ ap (λ (k : ℕ). k % 2) (digits_div 1 h)

bit_below : (x n d : ℕ) → d < n → bit (x + 2 ^ n) d ≡ bit x d
bit_below x (suc n) zero h = bit-zero (x + 2 ^ suc n) ∙ omega (arith, bit-zero x, pow-suc 2 n)
bit_below x (suc n) (suc d) h =
    let e : (x + 2 ^ suc n) / 2 ≡ x / 2 + 2 ^ n = omega (arith, pow-suc 2 n) in
    bit-suc (x + 2 ^ suc n) d ∙ ap (λ (k : ℕ). bit k d) e ∙ bit_below (x / 2) n d (omega arith) ∙ sym (bit-suc x d)
bit_below x zero d h = absurd (not-suc-le-zero h)

pub bit-gather : (f : ℕ → Bool) (n d : ℕ) → d < n → bit (gather f n) d ≡ cond (f d) 1 0
unfolding gather
bit-gather f zero d h = absurd (not-suc-le-zero h)
bit-gather f (suc n) d h = go (f n) refl (ℕ_discrete d n) (λ k. bit-gather f n d k)
  where
    go : (t : Bool) → f n ≡ t → Dec (d ≡ n) → (d < n → bit (gather f n) d ≡ cond (f d) 1 0) → bit (gather f n + cond (f n) (2 ^ n) 0) d ≡ cond (f d) 1 0
    go true t (yes e) ih = rw t (rw e (rw t (bit-above (gather f n) n (gather-lt f n))))
    go true t (no k) ih = rw t (bit_below (gather f n) n d (omega arith) ∙ ih (omega arith))
    go false t (yes e) ih = rw t (rw e (rw t (ap (λ (x : ℕ). bit x n) (add-zero (gather f n)) ∙ bit_high (gather f n) n n (gather-lt f n) (le_refl n))))
    go false t (no k) ih = rw t (ap (λ (x : ℕ). bit x d) (add-zero (gather f n)) ∙ ih (omega arith))

-- one more place, as code joins it
pub gather-here : (f : ℕ → Bool) (n : ℕ) → f n ≡ true → union (gather f n) (single n) ≡ gather f (n + 1)
unfolding gather
gather-here f n t =
    join (gather f n) (gather-lt f n)
    ∙ sym (ap (gather f) (add-one n) ∙ ap (λ (b : Bool). gather f n + cond b (2 ^ n) 0) t)
  where
    join : (x : ℕ) → x < 2 ^ n → union x (2 ^ n) ≡ x + 2 ^ n
    join x l =
        let e : 1 * 2 ^ n ≡ 2 ^ n = omega arith in
        ap (union x) (sym e) ∙ or_shifted_r 1 n x l ∙ omega arith

pub gather-not : (f : ℕ → Bool) (n : ℕ) → f n ≡ false → gather f n ≡ gather f (n + 1)
unfolding gather
gather-not f n t = sym (ap (gather f) (add-one n) ∙ ap (λ (b : Bool). gather f n + cond b (2 ^ n) 0) t ∙ add-zero (gather f n))
