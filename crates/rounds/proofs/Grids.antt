-- The grid of a line, and what a final carriage return has to do with it. Assumes nothing.
use mathlib.Core.Path.{◌≡◌, refl, sym, ap, subst, ◌∙◌}
use mathlib.Core.Bool.{Bool, true, false, cond, ◌||◌, false≢true}
use mathlib.Core.List.{List, [], ◌∷◌}
use Prim.Native.Nat.{ℕ, zero, suc, ◌-◌, ◌≤◌}
use native.Mathlib.Omega.{arith}
use borrow.Author.Tests.{eqb-true}
use lib.Dec.{eqb}
use lib.ListN.{length, get_or, take}
use lib.Seq.{take-length, length-take-le}
use Rattle.candidates.proofs.Tests.{by-test, cond-false, neither}
use Rattle.steps.specs.Loops.{any}
use Rattle.card.proofs.Newlines.{text-most}
use Rattle.rounds.specs.Lines.{bare_length, bare, is_separator, grid_in}

-- no separator: all of it is the grid
pub grid-all : (l : List ℕ) (n : ℕ) → any is_separator l ≡ false → grid_in (take n l) ≡ take n l
unfolding grid_in
grid-all [] zero e = refl
grid-all [] (suc n) e = refl
grid-all (b ∷ bs) zero e = refl
grid-all (b ∷ bs) (suc n) e =
    let w = (neither (is_separator b) (any is_separator bs)).0 e in
    cond-false (is_separator b) [] (b ∷ grid_in (take n bs)) w.0 ∙ ap (λ (l : List ℕ). b ∷ l) (grid-all bs n w.1)

-- a separator among the first n bytes: the others are none of the grid
pub grid-some : (l : List ℕ) (n : ℕ) → any is_separator (take n l) ≡ true → grid_in (take n l) ≡ grid_in l
unfolding grid_in
grid-some [] zero e = refl
grid-some [] (suc n) e = refl
grid-some (b ∷ bs) zero e = absurd (false≢true e)
grid-some (b ∷ bs) (suc n) e = go (is_separator b) e (grid-some bs n)
  where
    go : (t : Bool) → (t || any is_separator (take n bs)) ≡ true → (any is_separator (take n bs) ≡ true → grid_in (take n bs) ≡ grid_in bs) → cond t [] (b ∷ grid_in (take n bs)) ≡ cond t [] (b ∷ grid_in bs)
    go true e more = refl
    go false e more = ap (λ (l : List ℕ). b ∷ l) (more e)

-- a carriage return is no separator
any-front : (l : List ℕ) (n : ℕ) → length l ≡ suc n → get_or l n 0 ≡ 13 → any is_separator l ≡ true → any is_separator (take n l) ≡ true
any-front [] n h e t = absurd (omega (arith, h))
any-front (b ∷ []) zero h e t = absurd (false≢true (subst (λ (x : ℕ). any is_separator (x ∷ []) ≡ true) e t))
any-front (b ∷ c ∷ cs) zero h e t = absurd (omega (arith, h))
any-front (b ∷ bs) (suc n) h e t = go (is_separator b) t (any-front bs n (omega (arith, h)) e)
  where
    go : (s : Bool) → (s || any is_separator bs) ≡ true → (any is_separator bs ≡ true → any is_separator (take n bs) ≡ true) → (s || any is_separator (take n bs)) ≡ true
    go true t more = refl
    go false t more = more t

some_bytes : (l : List ℕ) → any is_separator l ≡ true → length l ≡ suc (length l - 1)
some_bytes [] t = absurd (false≢true t)
some_bytes (b ∷ bs) t = omega arith

pub grid-most : (l : List ℕ) → length (grid_in l) ≤ length l
unfolding grid_in
grid-most [] = omega arith
grid-most (b ∷ bs) = by-test (λ (k : List ℕ). length k ≤ suc (length bs)) (is_separator b) [] (b ∷ grid_in bs) (λ t. omega arith) (λ t. omega (arith, grid-most bs))

module _ (l : List ℕ) where
  pub grid-bare : any is_separator l ≡ true → grid_in (bare l) ≡ grid_in l
  grid-bare s =
      by-test (λ (n : ℕ). grid_in (take n l) ≡ grid_in l) (eqb (get_or l (length l - 1) 0) 13) (length l - 1) (length l)
      (λ t. grid-some l (length l - 1) (any-front l (length l - 1) (some_bytes l s) (eqb-true (get_or l (length l - 1) 0) 13 t) s))
      (λ t. ap grid_in (take-length l))

  pub whole_is : length (grid_in (bare l)) ≡ cond (any is_separator l) (length (grid_in l)) (bare_length l)
  whole_is = go (any is_separator l) refl
    where
      go : (t : Bool) → any is_separator l ≡ t → length (grid_in (bare l)) ≡ cond t (length (grid_in l)) (bare_length l)
      go true e = ap length (grid-bare e)
      go false e = ap length (grid-all l (bare_length l) e) ∙ length-take-le (bare_length l) l (text-most 13 l)

  pub grid-few : length (grid_in (bare l)) ≤ length l
  grid-few = subst (λ (k : ℕ). k ≤ length l) (sym whole_is) (by-test (λ (k : ℕ). k ≤ length l) (any is_separator l) (length (grid_in l)) (bare_length l) (λ t. grid-most l) (λ t. text-most 13 l))
