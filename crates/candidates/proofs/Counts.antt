-- How many digits a mask holds, and its lowest one. Assumes nothing.
use mathlib.Core.Path.{◌≡◌, refl, sym, ap, ◌∙◌, subst}
use mathlib.Core.Bool.{Bool, true, false, cond}
use mathlib.Core.Logic.{◌≢◌}
use Prim.Native.Nat.{ℕ, zero, suc, ◌+◌, ◌-◌, ◌*◌, ◌/◌, ◌%◌, ◌^◌, ◌≤◌, ◌<◌}
use native.Mathlib.Nat.{le_refl, pow-suc, not-suc-le-zero, add-zero, zero-add}
use native.Mathlib.Numerals.{add-one}
use native.Mathlib.Decide.{dec_lt}
use native.Mathlib.Omega.{arith}
use lib.Arith.{bin_ind}
use lib.Bits.{bit_and, and_step, and_self, and_zero_r}
use lib.Count.{ones, ones_step, ones_cat, count_trailing_zeros, trailing_le, under}
use lib.Dec.{eqb}
use lib.Pow.{pow_pos, shr-shr}
use Rattle.candidates.specs.Masks.{bit, has, minus, count, single, first_place, lowest, tail, Sub}
use Rattle.candidates.proofs.Membership.{and_low, bit-and, bit-minus, bit-none, bit-power, minus-half, minus-low, ext}
use Rattle.candidates.proofs.Order.{sub-le, sub-of-and}
use Rattle.candidates.proofs.Tests.{by-test, cond-true, cond-false, eqb-iff}

-- ---- counts

pub count_none : count 0 ≡ 0
unfolding ones
count_none = refl

-- the digits lost and the digits kept are all digits
pub count-minus : (x k : ℕ) → count (minus x k) + count (bit_and x k) ≡ count x
count-minus =
    bin_ind (λ (x : ℕ). (k : ℕ) → count (minus x k) + count (bit_and x k) ≡ count x) (λ k. none k)
    (λ x ih k. step x k (ih (k / 2)))
  where
    none : (k : ℕ) → count (minus 0 k) + count (bit_and 0 k) ≡ count 0
    none k = omega (arith, count_none)

    and-half : (x k : ℕ) → bit_and x k / 2 ≡ bit_and (x / 2) (k / 2)
    and-half x k = omega (arith, and_step x k)

    step : (x k : ℕ) → count (minus (x / 2) (k / 2)) + count (bit_and (x / 2) (k / 2)) ≡ count (x / 2) → count (minus x k) + count (bit_and x k) ≡ count x
    step x k ih =
        omega (arith, ones_step x, ones_step (minus x k), ones_step (bit_and x k), ap count (minus-half x k), ap count (and-half x k), minus-low x k, and_low x k)

pub count-pos : (x : ℕ) → 0 < x → 0 < count x
count-pos = bin_ind (λ (x : ℕ). 0 < x → 0 < count x) (λ h. absurd (not-suc-le-zero h)) (λ x ih h. step x ih h)
  where
    step : (x : ℕ) → (0 < x / 2 → 0 < count (x / 2)) → 0 < x → 0 < count x
    step x ih h = go (dec_lt 0 (x / 2))
      where
        go : Dec (0 < x / 2) → 0 < count x
        go (yes k) = omega (arith, ones_step x, ih k)
        go (no k) = omega (arith, ones_step x)

pub count-zero : (x : ℕ) → count x ≡ 0 → x ≡ 0
count-zero x e = go (dec_lt 0 x)
  where
    go : Dec (0 < x) → x ≡ 0
    go (yes k) = absurd (omega (arith, count-pos x k))
    go (no k) = omega arith

-- a proper part has fewer digits
pub sub-and : {x y : ℕ} → Sub x y → bit_and y x ≡ x
sub-and {x} {y} p = ext (bit_and y x) x (λ d. omega (arith, bit-and y x d, p.at d))

pub count-sub : {x y : ℕ} → Sub x y → count x ≤ count y
count-sub {x} {y} p = omega (arith, count-minus y x, ap count (sub-and p))

pub count-proper : {x y : ℕ} → Sub x y → x ≢ y → count x < count y
count-proper {x} {y} p n =
    let h : 0 < minus y x = omega (arith, sub-le p, sub-and p, n) in
    omega (arith, count-minus y x, ap count (sub-and p), count-pos (minus y x) h)

pub count-some : (x : ℕ) → 0 < count x → 0 < x
count-some x h = go (dec_lt 0 x)
  where
    go : Dec (0 < x) → 0 < x
    go (yes k) = k
    go (no k) =
        let e : x ≡ 0 = omega arith in
        absurd (omega (arith, ap count e, count_none))

pub count-power : (d : ℕ) → count (2 ^ d) ≡ 1
unfolding ones
count-power d =
    let e : 2 ^ d ≡ 1 * 2 ^ d + 0 = omega arith in
    ap count e ∙ ones_cat d 1 0 (pow_pos d)

-- ---- the first digit from a place on, below 9

pub first-hit : (x d : ℕ) → d < 9 → has x d ≡ true → first_place (9 - d) d x ≡ d
unfolding first_place
first-hit x d h t =
    let e : 9 - d ≡ suc (9 - (d + 1)) = omega arith in
    ap (λ (n : ℕ). first_place n d x) e ∙ cond-true (has x d) d (first_place (9 - (d + 1)) (suc d) x) t

pub first-miss : (x d : ℕ) → d < 9 → has x d ≡ false → first_place (9 - d) d x ≡ first_place (9 - (d + 1)) (d + 1) x
unfolding first_place
first-miss x d h t =
    let e : 9 - d ≡ suc (9 - (d + 1)) = omega arith in
    ap (λ (n : ℕ). first_place n d x) e ∙ cond-false (has x d) d (first_place (9 - (d + 1)) (suc d) x) t
    ∙ ap (λ (k : ℕ). first_place (9 - (d + 1)) k x) (sym (add-one d))

pub first-end : (x d : ℕ) → 9 ≤ d → first_place (9 - d) d x ≡ d
unfolding first_place
first-end x d h =
    let e : 9 - d ≡ 0 = omega arith in
    ap (λ (n : ℕ). first_place n d x) e

pub first-ge : (n d x : ℕ) → d ≤ first_place n d x
unfolding first_place
first-ge zero d x = le_refl d
first-ge (suc n) d x =
    by-test (λ (r : ℕ). d ≤ r) (has x d) d (first_place n (suc d) x) (λ t. le_refl d) (λ t. omega (arith, first-ge n (suc d) x))

-- ---- the lowest digit

-- the first place that is held, by the zeros below it
first-zeros : (n d x : ℕ) → first_place n d x ≡ d + count_trailing_zeros n (x / 2 ^ d)
unfolding first_place count_trailing_zeros
first-zeros zero d x = sym (add-zero d)
first-zeros (suc n) d x = go (bit x d) refl (first-zeros n (suc d) x)
  where
    next : x / 2 ^ suc d ≡ x / 2 ^ d / 2
    next = ap (λ (k : ℕ). x / 2 ^ k) (sym (add-one d)) ∙ sym (shr-shr x d 1)

    go : (b : ℕ) → bit x d ≡ b → first_place n (suc d) x ≡ suc d + count_trailing_zeros n (x / 2 ^ suc d) → cond (eqb (bit x d) 1) d (first_place n (suc d) x) ≡ d + under (bit x d) (count_trailing_zeros n (x / 2 ^ d / 2))
    go zero e ih = rw e (ih ∙ ap (λ (k : ℕ). suc d + count_trailing_zeros n k) next ∙ omega arith)
    go (suc zero) e ih = rw e (omega arith)
    go (suc (suc b)) e ih = absurd (omega (arith, e))

pub lowest-zeros : (x : ℕ) → count_trailing_zeros 16 x ≡ lowest x
lowest-zeros x =
    let e : x ≡ x / 2 ^ 0 = omega arith in
    ap (count_trailing_zeros 16) e ∙ sym (zero-add (count_trailing_zeros 16 (x / 2 ^ 0))) ∙ sym (first-zeros 16 0 x)

-- a search over n of m places: what is found among the n, or their end
first-cut : (n m d x : ℕ) → n ≤ m → (first_place m d x < d + n → first_place m d x ≡ first_place n d x) × (d + n ≤ first_place m d x → d + n ≡ first_place n d x)
unfolding first_place
first-cut zero m d x h = (λ l. absurd (omega (arith, first-ge m d x)), λ l. add-zero d)
first-cut (suc n) zero d x h = absurd (omega arith)
first-cut (suc n) (suc m) d x h = go (has x d) refl (first-cut n m (suc d) x (omega arith))
  where
    go : (t : Bool) → has x d ≡ t → (first_place m (suc d) x < suc d + n → first_place m (suc d) x ≡ first_place n (suc d) x) × (suc d + n ≤ first_place m (suc d) x → suc d + n ≡ first_place n (suc d) x)
        → (cond (has x d) d (first_place m (suc d) x) < d + suc n → cond (has x d) d (first_place m (suc d) x) ≡ cond (has x d) d (first_place n (suc d) x))
        × (d + suc n ≤ cond (has x d) d (first_place m (suc d) x) → d + suc n ≡ cond (has x d) d (first_place n (suc d) x))
    go true e w = rw e (λ l. refl, λ l. absurd (omega arith))
    go false e w =
        let same : d + suc n ≡ suc d + n = omega arith in
        rw e (λ l. w.0 (omega arith), λ l. same ∙ w.1 (omega arith))

-- the first of the nine places from d on, by the lowest of the mask from there
pub first-shifted : (x d : ℕ) {p : ℕ} → d < 9 → p ≡ d + lowest (x / 2 ^ d) → (p < 9 → p ≡ first_place (9 - d) d x) × (9 ≤ p → 9 ≡ first_place (9 - d) d x)
first-shifted x d {p} h e =
    let found : p ≡ first_place 16 d x = e ∙ ap (λ (k : ℕ). d + k) (sym (lowest-zeros (x / 2 ^ d))) ∙ sym (first-zeros 16 d x) in
    let end : d + (9 - d) ≡ 9 = omega arith in
    let w = first-cut (9 - d) 16 d x (omega arith) in
    (λ l. found ∙ w.0 (omega (arith, found)), λ l. sym end ∙ w.1 (omega (arith, found)))

pub lowest-le : (x : ℕ) → lowest x ≤ 16
lowest-le x = omega (arith, lowest-zeros x, trailing_le 16 x)

-- `x & (x - 1)` clears the lowest digit, which stands at place t of k
record Cleared (k x t : ℕ) : Type 0 where
  within : t < k
  rest : bit_and x (x - 1) ≡ x - 2 ^ t
  held : bit_and x (2 ^ t) ≡ 2 ^ t

cleared-odd : (k x : ℕ) → x % 2 ≡ 1 → Cleared (suc k) x 0
cleared-odd k x e =
    let half : (x - 1) / 2 ≡ x / 2 = omega arith in
    let same : bit_and (x / 2) ((x - 1) / 2) ≡ x / 2 = ap (bit_and (x / 2)) half ∙ and_self (x / 2) in
    record {
      within = omega arith;
      rest = omega (arith, and_step x (x - 1));
      held = omega (arith, and_step x 1, and_zero_r (x / 2));
    }

cleared-even : (k x t : ℕ) → 0 < x → x % 2 ≡ 0 → Cleared k (x / 2) t → Cleared (suc k) x (suc t)
cleared-even k x t p e c =
    let half : (x - 1) / 2 ≡ x / 2 - 1 = omega arith in
    let rest : bit_and (x / 2) ((x - 1) / 2) ≡ x / 2 - 2 ^ t = ap (bit_and (x / 2)) half ∙ c.rest in
    let same : 2 ^ suc t / 2 ≡ 2 ^ t = omega (arith, pow-suc 2 t) in
    let held : bit_and (x / 2) (2 ^ suc t / 2) ≡ 2 ^ t = ap (bit_and (x / 2)) same ∙ c.held in
    record {
      within = omega (arith, c.within);
      rest = omega (arith, and_step x (x - 1), pow-suc 2 t);
      held = omega (arith, and_step x (2 ^ suc t), pow-suc 2 t);
    }

cleared : (k x : ℕ) → 0 < x → x < 2 ^ k → Cleared k x (count_trailing_zeros k x)
unfolding count_trailing_zeros
cleared zero x p h = absurd (omega arith)
cleared (suc k) x p h = go (x % 2) refl (λ q l. cleared k (x / 2) q l)
  where
    go : (b : ℕ) → x % 2 ≡ b → (0 < x / 2 → x / 2 < 2 ^ k → Cleared k (x / 2) (count_trailing_zeros k (x / 2))) → Cleared (suc k) x (under (x % 2) (count_trailing_zeros k (x / 2)))
    go zero e ih = rw e (cleared-even k x (count_trailing_zeros k (x / 2)) p e (ih (omega arith) (omega (arith, pow-suc 2 k))))
    go (suc zero) e ih = rw e (cleared-odd k x e)
    go (suc (suc b)) e ih = absurd (omega (arith, e))

lowest-cleared : (x : ℕ) → 0 < x → x < 2 ^ 16 → Cleared 16 x (lowest x)
lowest-cleared x p h = subst (λ (t : ℕ). Cleared 16 x t) (lowest-zeros x) (cleared 16 x p h)

lowest-held : (x : ℕ) → 0 < x → x < 2 ^ 16 → bit_and x (single (lowest x)) ≡ single (lowest x)
lowest-held x p h = (lowest-cleared x p h).held

pub lowest-sub : (x : ℕ) → 0 < x → x < 2 ^ 16 → Sub (2 ^ lowest x) x
lowest-sub x p h = sub-of-and x (2 ^ lowest x) (lowest-held x p h)

pub bit-lowest : (x : ℕ) → 0 < x → x < 2 ^ 16 → bit x (lowest x) ≡ 1
bit-lowest x p h = omega (arith, (lowest-sub x p h).at (lowest x), bit-power (lowest x))

pub tail-is : (x : ℕ) → 0 < x → x < 2 ^ 16 → bit_and x (x - 1) ≡ tail x
tail-is x p h = (lowest-cleared x p h).rest ∙ ap (λ (n : ℕ). x - n) (sym (lowest-held x p h))

pub count-tail : (x : ℕ) → 0 < x → x < 2 ^ 16 → count (tail x) + 1 ≡ count x
count-tail x p h = omega (arith, count-minus x (single (lowest x)), ap count (lowest-held x p h), count-power (lowest x))

-- ---- none, one, two

pub test-none : (x : ℕ) → eqb x 0 ≡ eqb (count x) 0
test-none x = eqb-iff x 0 (count x) 0 (λ e. ap count e ∙ count_none) (count-zero x)

pub test-one : (x : ℕ) → 0 < x → x < 2 ^ 16 → eqb (tail x) 0 ≡ eqb (count x) 1
test-one x p h =
    eqb-iff (tail x) 0 (count x) 1 (λ e. omega (arith, count-tail x p h, ap count e, count_none))
    (λ e. count-zero (tail x) (omega (arith, count-tail x p h)))

pub test-two : (x : ℕ) → x < 2 ^ 16 → eqb (count (tail x)) 1 ≡ eqb (count x) 2
test-two x h = go (dec_lt 0 x)
  where
    go : Dec (0 < x) → eqb (count (tail x)) 1 ≡ eqb (count x) 2
    go (yes p) = eqb-iff (count (tail x)) 1 (count x) 2 (λ e. omega (arith, count-tail x p h)) (λ e. omega (arith, count-tail x p h))
    go (no n) =
        let e : x ≡ 0 = omega arith in
        subst (λ (y : ℕ). eqb (count (tail y)) 1 ≡ eqb (count y) 2) (sym e)
        (ap (λ (n : ℕ). eqb n 1) count_none ∙ sym (ap (λ (n : ℕ). eqb n 2) count_none))

-- ---- all digits but those of a mask

pub and-except : (k : ℕ) → bit_and k (minus 511 k) ≡ 0
and-except k = ext (bit_and k (minus 511 k)) 0 (λ d. omega (arith, bit-and k (minus 511 k) d, bit-minus 511 k d, bit-none d))
