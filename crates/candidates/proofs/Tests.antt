-- A fact about each number below a bound, by one test that the checker computes; which case a test picks; what tests on truth values say. Assumes nothing.
use mathlib.Core.Path.{◌≡◌, refl, sym, subst, ◌∙◌}
use mathlib.Core.Logic.{◌⊎◌, ◌↔◌, inl, inr, ⊎_elim}
use mathlib.Core.Bool.{Bool, true, false, cond, not, ◌&&◌, ◌||◌, true≢false, false≢true}
use Prim.Native.Nat.{ℕ, zero, suc, ◌≤◌, ◌<◌}
use native.Mathlib.Nat.{not-suc-le-zero}
use native.Mathlib.Omega.{arith}
use borrow.Author.Tests.{eqb-true, eq-eqb, ne_eqb}
use lib.Arith.{lt_of_le-ne}
use lib.Dec.{T, eqb}
use native.Mathlib.Decide.{ℕ_discrete}

-- the test f passes at each number below n
abbrev pub all_below : ℕ → (ℕ → Bool) → Bool
all_below zero f = true
all_below (suc n) f = f n && all_below n f

pub and_left : (a b : Bool) → T (a && b) → T a
and_left true b t = tt
and_left false b t = t

pub and_right : (a b : Bool) → T (a && b) → T b
and_right true b t = t
and_right false b t = absurd t

pub below : (n : ℕ) (f : ℕ → Bool) → T (all_below n f) → (d : ℕ) → d < n → T (f d)
below zero f t d h = absurd (not-suc-le-zero h)
below (suc n) f t d h = go (ℕ_discrete d n) (λ k. below n f (and_right (f n) (all_below n f) t) d k)
  where
    go : Dec (d ≡ n) → (d < n → T (f d)) → T (f d)
    go (yes e) lower = subst (λ (k : ℕ). T (f k)) (sym e) (and_left (f n) (all_below n f) t)
    go (no e) lower = lower (omega arith)

-- what holds of both branches holds of the one that the test picks
pub by-test {ℓ κ} : {A : Type ℓ} (P : A → Type κ) (b : Bool) (x y : A) → (b ≡ true → P x) → (b ≡ false → P y) → P (cond b x y)
by-test P true x y f g = f refl
by-test P false x y f g = g refl

pub cond-true {ℓ} : {A : Type ℓ} (b : Bool) (x y : A) → b ≡ true → cond b x y ≡ x
cond-true b x y e = rw e

pub cond-false {ℓ} : {A : Type ℓ} (b : Bool) (x y : A) → b ≡ false → cond b x y ≡ y
cond-false b x y e = rw e

-- two tests of equality that hold together
pub eqb-iff : (a b c d : ℕ) → (a ≡ b → c ≡ d) → (c ≡ d → a ≡ b) → eqb a b ≡ eqb c d
eqb-iff a b c d f g = go (ℕ_discrete a b)
  where
    go : Dec (a ≡ b) → eqb a b ≡ eqb c d
    go (yes e) = eq-eqb a b e ∙ sym (eq-eqb c d (f e))
    go (no n) = ne_eqb a b n ∙ sym (ne_eqb c d (λ e. n (g e)))

pub below_both : (n m : ℕ) (f : ℕ → ℕ → Bool) → T (all_below n (λ a. all_below m (f a))) → (a b : ℕ) → a < n → b < m → T (f a b)
below_both n m f t a b h k = below m (f a) (below n (λ a. all_below m (f a)) t a h) b k

pub T_true : (b : Bool) → T b → b ≡ true
T_true true t = refl
T_true false t = absurd t

pub both : {a b : Bool} → a ≡ true → b ≡ true → (a && b) ≡ true
both {a} {b} p q = rw (p, q)

pub both_left : (a b : Bool) → (a && b) ≡ true → a ≡ true
both_left true b e = refl
both_left false b e = e

pub both_right : (a b : Bool) → (a && b) ≡ true → b ≡ true
both_right true b e = e
both_right false b e = absurd (false≢true e)

pub either : (a b : Bool) → ((a || b) ≡ true) ↔ ((a ≡ true) ⊎ (b ≡ true))
either true b = (λ t. inl refl, λ w. refl)
either false b = (λ t. inr t, ⊎_elim (λ t. absurd (false≢true t)) (λ t. t))

pub neither : (a b : Bool) → ((a || b) ≡ false) ↔ ((a ≡ false) × (b ≡ false))
neither true b = (λ e. absurd (true≢false e), λ w. w.0)
neither false b = (λ e. (refl, e), λ w. w.1)

pub or-implied : (a b : Bool) → (not a || b) ≡ true → a ≡ true → b ≡ true
or-implied true b t e = t
or-implied false b t e = absurd (false≢true e)

-- two tests that pass together
pub bool_iff : (a b : Bool) → (a ≡ true → b ≡ true) → (b ≡ true → a ≡ true) → a ≡ b
bool_iff true true f g = refl
bool_iff true false f g = sym (f refl)
bool_iff false true f g = g refl
bool_iff false false f g = refl

-- what the first test asks, the second passes
abbrev pub implies : Bool → Bool → Bool
implies true b = b
implies false b = true

pub implied : (a b : Bool) → T (implies a b) → a ≡ true → T b
implied true b t e = t
implied false b t e = absurd (false≢true e)

-- one number after the other
pub past : {k n : ℕ} → k ≤ n → (n ≡ k → ⊥) → suc k ≤ n
past low other = lt_of_le-ne low (λ e. other (sym e))

pub eqb-sym : (a b : ℕ) → eqb a b ≡ eqb b a
eqb-sym a b =
    bool_iff (eqb a b) (eqb b a) (λ e. eq-eqb b a (sym (eqb-true a b e))) (λ e. eq-eqb a b (sym (eqb-true b a e)))
