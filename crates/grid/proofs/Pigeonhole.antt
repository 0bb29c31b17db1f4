-- n numbers below n, no two of them equal, are all the numbers below n. Assumes nothing.
use mathlib.Core.Path.{◌≡◌, sym, ap, ◌∙◌}
use mathlib.Core.Logic.{◌≢◌, ◌⊎◌, inl, inr, ⊎_elim}
use Prim.Native.Nat.{ℕ, zero, suc, ◌-◌, ◌<◌}
use native.Mathlib.Nat.{not-suc-le-zero}
use native.Mathlib.Decide.{ℕ_discrete, dec_lt}
use native.Mathlib.Omega.{arith}

-- f sends the numbers below n to numbers below m, different ones to different ones
pub record Injects (n m : ℕ) (f : ℕ → ℕ) : Type 0 where
  pub into : (i : ℕ) → i < n → f i < m
  pub apart : (i j : ℕ) → i < n → j < n → f i ≡ f j → i ≡ j

-- x with the number v left out of the count
past : {v x : ℕ} → Dec (x < v) → ℕ
past {v} {x} (yes h) = x
past {v} {x} (no h) = x - 1

past-below : {v x m : ℕ} (d : Dec (x < v)) → x ≢ v → x < suc m → v < suc m → past d < m
unfolding past
past-below (yes h) n k l = omega arith
past-below (no h) n k l = omega arith

past-apart : {v x y : ℕ} (d : Dec (x < v)) (e : Dec (y < v)) → x ≢ v → y ≢ v → past d ≡ past e → x ≡ y
unfolding past
past-apart (yes h) (yes k) n m p = p
past-apart (yes h) (no k) n m p = omega arith
past-apart (no h) (yes k) n m p = omega arith
past-apart (no h) (no k) n m p = omega arith

-- a value that none of the numbers below n has can be left out
skip : (n m v : ℕ) (f : ℕ → ℕ) → Injects n (suc m) f → v < suc m → ((i : ℕ) → i < n → f i ≢ v) → Injects n m (λ i. past (dec_lt (f i) v))
skip n m v f r h none = record {
  into = λ i k. past-below (dec_lt (f i) v) (none i k) (r.into i k) h;
  apart = λ i j k l e. r.apart i j k l (past-apart (dec_lt (f i) v) (dec_lt (f j) v) (none i k) (none j l) e);
}

pub no_room : (n : ℕ) (f : ℕ → ℕ) → Injects (suc n) n f → ⊥
no_room zero f r = not-suc-le-zero (r.into 0 (omega arith))
no_room (suc n) f r = no_room n (λ i. past (dec_lt (f i) (f (suc n)))) (skip (suc n) n (f (suc n)) f fewer (r.into (suc n) (omega arith)) others)
  where
    fewer : Injects (suc n) (suc n) f
    fewer = record { into = λ i k. r.into i (omega arith); apart = λ i j k l e. r.apart i j (omega arith) (omega arith) e }

    others : (i : ℕ) → i < suc n → f i ≢ f (suc n)
    others i k e = let p = r.apart i (suc n) (omega arith) (omega arith) e in absurd (omega arith)

-- the value v stands at some number below n, or at none
Found : ℕ → ℕ → (ℕ → ℕ) → Type 0
Found n v f = (i : ℕ) × (i < n) × (f i ≡ v)

find : (n v : ℕ) (f : ℕ → ℕ) → Found n v f ⊎ ((i : ℕ) → i < n → f i ≢ v)
unfolding Found
find zero v f = inr (λ i h. absurd (not-suc-le-zero h))
find (suc n) v f = go (ℕ_discrete (f n) v) (find n v f)
  where
    go : Dec (f n ≡ v) → Found n v f ⊎ ((i : ℕ) → i < n → f i ≢ v) → Found (suc n) v f ⊎ ((i : ℕ) → i < suc n → f i ≢ v)
    go (yes e) r = inl (n, omega arith, e)
    go (no e) (inl p) = let h = p.1 in inl (p.0, omega arith, p.2)
    go (no e) (inr none) = inr (λ i h. last i h (ℕ_discrete i n))
      where
        last : (i : ℕ) → i < suc n → Dec (i ≡ n) → f i ≢ v
        last i h (yes p) = λ q. e (ap f (sym p) ∙ q)
        last i h (no p) = none i (omega arith)

pub onto : (n : ℕ) (f : ℕ → ℕ) → Injects n n f → (v : ℕ) → v < n → (i : ℕ) × (i < n) × (f i ≡ v)
unfolding Found
onto zero f r v h = absurd (not-suc-le-zero h)
onto (suc n) f r v h =
    ⊎_elim (λ p. p) (λ none. absurd (no_room n (λ i. past (dec_lt (f i) v)) (skip (suc n) n v f r h none))) (find (suc n) v f)
