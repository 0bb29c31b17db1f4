-- Loops that do the same: turn by turn, in one turn alone, over lists that loops make, and under a test. Assumes nothing.
use mathlib.Core.Path.{◌≡◌, refl, sym, ap, ◌∙◌}
use mathlib.Core.Bool.{Bool, true, false, cond}
use mathlib.Core.Logic.{◌≢◌}
use mathlib.Core.List.{List, [], ◌∷◌, Memᴰ}
use Prim.Native.Nat.{ℕ, zero, suc, ◌+◌, ◌≤◌, ◌<◌}
use native.Mathlib.Decide.{ℕ_discrete}
use native.Mathlib.Omega.{arith}
use Rattle.grid.proofs.Lists.{mem-range, each_same}
use Rattle.steps.specs.Loops.{each, for, range}
use Rattle.steps.proofs.Loops.{each-for, each-idle}

-- turns that agree on states of which something is known, which each turn keeps
pub each-alike : {A S : Type 0} (f g : A → S → S) (P : S → Type 0) (xs : List A) → ((x : A) → Memᴰ x xs → (s : S) → P s → (f x s ≡ g x s) × P (g x s))
    → (s : S) → P s → (each f xs s ≡ each g xs s) × P (each g xs s)
unfolding each
each-alike f g P [] h s p = (refl, p)
each-alike f g P (x ∷ xs) h s p =
    let now = h x (Memᴰ.head refl) s p in
    let later = each-alike f g P xs (λ y k. h y (Memᴰ.tail k)) (g x s) now.1 in
    (ap (each f xs) now.0 ∙ later.0, later.1)

-- a loop over numbers in which only the turn of i does anything
pub each-only : {S : Type 0} (f : ℕ → S → S) (i n k : ℕ) → k ≤ i → i < k + n → ((j : ℕ) → j < k + n → j ≢ i → (s : S) → f j s ≡ s) → (s : S) → each f (range n k) s ≡ f i s
unfolding each
each-only f i zero k h l idle s = absurd (omega arith)
each-only {S} f i (suc n) k h l idle s = go (ℕ_discrete k i) (λ m. each-only f i n (suc k) m (omega arith) (λ j o. idle j (omega arith)))
  where
    go : Dec (k ≡ i) → (suc k ≤ i → (t : S) → each f (range n (suc k)) t ≡ f i t) → each f (range n (suc k)) (f k s) ≡ f i s
    go (yes e) more =
        each-idle f (range n (suc k)) (f k s) (λ j o. let w = mem-range n (suc k) j o in idle j (omega (arith, w.1)) (λ q. omega (arith, w.0)) (f k s))
        ∙ ap (λ (x : ℕ). f x s) e
    go (no e) more = ap (each f (range n (suc k))) (idle k (omega arith) e s) ∙ more (omega arith) s

-- a list that a loop makes of one thing at each turn
pub each-one : {A B S : Type 0} (f : B → S → S) (xs : List A) (h : A → B) (s : S) → each f (for xs λ x. h x ∷ []) s ≡ each (λ x. f (h x)) xs s
unfolding each for
each-one f [] h s = refl
each-one f (x ∷ xs) h s = each-one f xs h (f (h x) s)

-- a list that a loop makes, where each turn t does what the turn's part of the list does
pub each_in : {A B S : Type 0} (f : B → S → S) (xs : List A) (h : A → List B) (t : A → S → S) → ((x : A) (s : S) → each f (h x) s ≡ t x s) → (s : S) → each f (for xs h) s ≡ each t xs s
each_in f xs h t same s = each-for f xs h s ∙ each_same (λ x. each f (h x)) t xs (λ x k. same x) s

-- ---- a test in front of a loop is a test in each turn

module _ {A S : Type 0} where
  pub each-when : (t : Bool) (f : A → S → S) (xs : List A) (s : S) → cond t (each f xs s) s ≡ each (λ x s. cond t (f x s) s) xs s
  each-when true f xs s = refl
  each-when false f xs s = sym (each-idle (λ x s. s) xs s (λ x k. refl))

  pub each-unless : (t : Bool) (f : A → S → S) (xs : List A) (s : S) → cond t s (each f xs s) ≡ each (λ x s. cond t s (f x s)) xs s
  each-unless true f xs s = sym (each-idle (λ x s. s) xs s (λ x k. refl))
  each-unless false f xs s = refl
