-- Which digits a mask holds, said of the test `has`: after a loss, a union, and in a mask of one digit. Assumes nothing.
use mathlib.Core.Path.{◌≡◌, refl, sym, ap, ◌∙◌, subst}
use mathlib.Core.Logic.{◌⊎◌, ◌↔◌, inl, inr, ⊎_elim}
use mathlib.Core.Bool.{Bool, true, false, cond, not, ◌&&◌, ◌||◌, true≢false}
use Prim.Native.Nat.{ℕ, zero, suc, ◌-◌, ◌^◌, ◌≤◌, ◌<◌, max}
use native.Mathlib.Decide.{ℕ_discrete, dec_lt}
use native.Mathlib.Omega.{arith}
use borrow.Author.Tests.{eq-eqb, eqb-true}
use lib.Dec.{eqb, lit≤}
use Rattle.candidates.specs.Masks.{bit, has, minus, union, gather, Sub}
use Rattle.candidates.proofs.Membership.{bit-power, bit-other, bit-minus, bit-union, bit-none, bit-all, bit_high, bit-gather, ext}
use Rattle.candidates.proofs.Tests.{bool_iff, either}

abbrev pub Held : ℕ → ℕ → Type 0
Held x d = has x d ≡ true

-- ---- the test and the bit

pub bit-has : (x d : ℕ) → bit x d ≡ cond (has x d) 1 0
bit-has x d = go (bit x d) (omega arith)
  where
    go : (b : ℕ) → b < 2 → b ≡ cond (eqb b 1) 1 0
    go zero h = refl
    go (suc zero) h = refl
    go (suc (suc b)) h = absurd (omega arith)

-- a bit that comes from two others
has_of : (x y z d : ℕ) (f : ℕ → ℕ → ℕ) (h : Bool → Bool → Bool) → ((a b : Bool) → eqb (f (cond a 1 0) (cond b 1 0)) 1 ≡ h a b)
    → bit z d ≡ f (bit x d) (bit y d) → has z d ≡ h (has x d) (has y d)
has_of x y z d f h table e =
    ap (λ (b : ℕ). eqb b 1) (e ∙ ap (λ (b : ℕ). f b (bit y d)) (bit-has x d) ∙ ap (f (cond (has x d) 1 0)) (bit-has y d)) ∙ table (has x d) (has y d)

pub bit-same : (x y d : ℕ) → has x d ≡ has y d → bit x d ≡ bit y d
bit-same x y d e = bit-has x d ∙ ap {B = ℕ} (λ (b : Bool). cond b 1 0) e ∙ sym (bit-has y d)

-- masks that hold the same digits are the same
pub held-ext : (x y : ℕ) → ((d : ℕ) → Held x d ↔ Held y d) → x ≡ y
held-ext x y h = ext x y (λ d. bit-same x y d (bool_iff (has x d) (has y d) (h d).0 (h d).1))

pub sub_held : (x y : ℕ) → ((d : ℕ) → Held x d → Held y d) → Sub x y
sub_held x y h = record { at = λ d. rw (bit-has x d, bit-has y d) (go (has x d) (has y d) (h d)) }
  where
    go : (a b : Bool) → (a ≡ true → b ≡ true) → ◌≤◌ (cond a 1 0) (cond b 1 0)
    go true true f = lit≤ tt
    go true false f = absurd (true≢false (sym (f refl)))
    go false true f = lit≤ tt
    go false false f = lit≤ tt

pub held-sub : {x y : ℕ} (d : ℕ) → Sub x y → Held x d → Held y d
held-sub {x} {y} d s t = eq-eqb (bit y d) 1 (omega (arith, s.at d, eqb-true (bit x d) 1 t))

-- ---- no digit, one digit, n digits

pub has-none : (d : ℕ) → has 0 d ≡ false
has-none d = ap (λ (b : ℕ). eqb b 1) (bit-none d)

pub none-held : (d : ℕ) → Held 0 d → ⊥
none-held d t = true≢false (sym t ∙ has-none d)

-- a mask of n places holds nothing above them
pub held_below : (x n d : ℕ) → x < 2 ^ n → Held x d → d < n
held_below x n d h t = go (dec_lt d n)
  where
    go : Dec (d < n) → d < n
    go (yes k) = k
    go (no k) = absurd (clash (bit x d) (bit_high x n d h (omega arith)) (eqb-true (bit x d) 1 t))
      where
        clash : (b : ℕ) → b ≡ 0 → b ≡ 1 → ⊥
        clash b p q = omega arith

pub held_all : (d : ℕ) → d < 9 → Held 511 d
held_all d h = eq-eqb (bit 511 d) 1 (bit-all d h)

pub held-power : (a d : ℕ) → Held (2 ^ a) d ↔ (d ≡ a)
held-power a d = (λ t. same (ℕ_discrete a d) t, λ e. rw e (eq-eqb (bit (2 ^ a) a) 1 (bit-power a)))
  where
    same : Dec (a ≡ d) → Held (2 ^ a) d → d ≡ a
    same (yes e) t = sym e
    same (no n) t = absurd (true≢false (sym t ∙ ap (λ (b : ℕ). eqb b 1) (bit-other a d n)))

pub has-power : (a d : ℕ) → has (2 ^ a) d ≡ eqb d a
has-power a d = bool_iff (has (2 ^ a) d) (eqb d a) (λ t. eq-eqb d a ((held-power a d).0 t)) (λ t. (held-power a d).1 (eqb-true d a t))

-- ---- without, either

pub has-minus : (x k d : ℕ) → has (minus x k) d ≡ (has x d && not (has k d))
has-minus x k d = has_of x k (minus x k) d ◌-◌ (λ a b. a && not b) table (bit-minus x k d)
  where
    table : (a b : Bool) → eqb (cond a 1 0 - cond b 1 0) 1 ≡ (a && not b)
    table true true = refl
    table true false = refl
    table false true = refl
    table false false = refl

pub held-minus : (x k d : ℕ) → Held (minus x k) d ↔ (Held x d × ¬ (Held k d))
held-minus x k d = subst (λ (t : Bool). (t ≡ true) ↔ (Held x d × ¬ (Held k d))) (sym (has-minus x k d)) (go (has x d) (has k d))
  where
    go : (a b : Bool) → ((a && not b) ≡ true) ↔ ((a ≡ true) × ¬ (b ≡ true))
    go true true = (λ t. absurd (true≢false (sym t)), λ w. absurd (w.1 refl))
    go true false = (λ t. (refl, λ e. true≢false (sym e)), λ w. refl)
    go false b = (λ t. absurd (true≢false (sym t)), λ w. w.0)

pub has-union : (x y d : ℕ) → has (union x y) d ≡ (has x d || has y d)
has-union x y d = has_of x y (union x y) d max ◌||◌ table (bit-union x y d)
  where
    table : (a b : Bool) → eqb (max (cond a 1 0) (cond b 1 0)) 1 ≡ (a || b)
    table true true = refl
    table true false = refl
    table false true = refl
    table false false = refl

pub held-union : (x y d : ℕ) → Held (union x y) d ↔ (Held x d ⊎ Held y d)
held-union x y d = subst (λ (t : Bool). (t ≡ true) ↔ (Held x d ⊎ Held y d)) (sym (has-union x y d)) (either (has x d) (has y d))

-- the places that pass a test
pub has-gather : (f : ℕ → Bool) (n i : ℕ) → i < n → has (gather f n) i ≡ f i
has-gather f n i h = ap (λ (b : ℕ). eqb b 1) (bit-gather f n i h) ∙ go (f i)
  where
    go : (b : Bool) → eqb (cond b 1 0) 1 ≡ b
    go true = refl
    go false = refl

-- a and b alone
pub held_both : (a b d : ℕ) → Held (union (2 ^ a) (2 ^ b)) d → (d ≡ a) ⊎ (d ≡ b)
held_both a b d t = ⊎_elim (λ s. inl ((held-power a d).0 s)) (λ s. inr ((held-power b d).0 s)) ((held-union (2 ^ a) (2 ^ b) d).0 t)

-- a digit that is held, as a part
pub power-sub : (x a : ℕ) → Held x a → Sub (2 ^ a) x
power-sub x a t = sub_held (2 ^ a) x (λ d s. subst (λ (k : ℕ). Held x k) (sym ((held-power a d).0 s)) t)

pub sub-power : (x a : ℕ) → Sub (2 ^ a) x → Held x a
sub-power x a s = held-sub a s ((held-power a a).1 refl)
