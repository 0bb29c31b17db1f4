-- An array whose elements are set one after the other, from the first on. Assumes nothing.
use mathlib.Core.Path.{◌≡◌, refl, sym, ap, ◌∙◌}
use mathlib.Core.List.{List, [], ◌∷◌, ◌++◌, map, append-nil}
use Prim.Native.Nat.{ℕ, zero, suc, ◌+◌, ◌-◌, ◌≤◌, ◌<◌}
use native.Mathlib.Omega.{arith}
use lib.ListN.{length, set, drop, replicate, length-append}
use lib.Seq.{set_at, append_snoc, drop-length}
use Rattle.grid.specs.Lists.{range, each}
use Rattle.grid.proofs.Lists.{turn-done, turns-over}

module _ {A : Type 0} (f : ℕ → A) where
  -- the elements from i up to n are still to be set
  unfoldable pub filled : ℕ → ℕ → List A → List A
  filled n i xs = each (λ k l. set l k (f k)) (range (n - i) i) xs

  set_all : (n k : ℕ) (xs ys : List A) → length xs ≡ k → n ≤ length ys → each (λ k l. set l k (f k)) (range n k) (xs ++ ys) ≡ xs ++ (map f (range n k) ++ drop n ys)
  unfolding each
  set_all zero k xs ys h l = refl
  set_all (suc n) k xs [] h l = absurd (omega arith)
  set_all (suc n) k xs (y ∷ ys) h l =
      ap (each (λ k l. set l k (f k)) (range n (suc k))) (set_at xs y ys (f k) k h ∙ sym (append_snoc xs (f k) ys))
      ∙ set_all n (suc k) (xs ++ (f k ∷ [])) ys (length-append xs (f k ∷ []) ∙ omega arith) (omega arith)
      ∙ append_snoc xs (f k) (map f (range n (suc k)) ++ drop n ys)

  -- all of the second part
  pub each_set : (n k : ℕ) (xs ys : List A) → length xs ≡ k → length ys ≡ n → each (λ k l. set l k (f k)) (range n k) (xs ++ ys) ≡ xs ++ map f (range n k)
  each_set n k xs ys h l =
      set_all n k xs ys h (omega arith)
      ∙ ap (λ (zs : List A). xs ++ (map f (range n k) ++ zs)) (ap (λ (m : ℕ). drop m ys) (sym l) ∙ drop-length ys)
      ∙ ap (λ (zs : List A). xs ++ zs) (append-nil (map f (range n k)))

  -- the first n of a longer list: the others stay
  pub fill-front : (n : ℕ) (xs : List A) → n ≤ length xs → filled n 0 xs ≡ map f (range n 0) ++ drop n xs
  unfolding filled
  fill-front n xs h =
      let e : n - 0 ≡ n = omega arith in
      ap (λ (m : ℕ). each (λ k l. set l k (f k)) (range m 0) xs) e ∙ set_all n 0 [] xs refl h

  pub fill_start : (n : ℕ) (xs : List A) → length xs ≡ n → filled n 0 xs ≡ map f (range n 0)
  unfolding filled
  fill_start n xs h =
      let e : n - 0 ≡ n = omega arith in
      ap (λ (m : ℕ). each (λ k l. set l k (f k)) (range m 0) xs) e ∙ each_set n 0 [] xs refl h

  -- r is the whole array, xs what it is at i
  module _ (n i : ℕ) (xs : List A) {r : List A} (left : filled n i xs ≡ r) where
    pub fill_on : {x : A} → i < n → x ≡ f i → filled n (i + 1) (set xs i x) ≡ r
    unfolding filled
    fill_on h e = turn-done (λ k l. set l k (f k)) n i h (ap (set xs i) e) left

    pub fill_end : n ≤ i → xs ≡ r
    unfolding filled
    fill_end h = turns-over (λ k l. set l k (f k)) n i h left

-- a list in front of an array of n that z fills up, with one more element
pub fill-next : {A : Type 0} (z : A) (n : ℕ) (xs : List A) (k : ℕ) (x : A) → length xs ≡ k → k < n
    → set (xs ++ replicate (n - length xs) z) k x ≡ (xs ++ (x ∷ [])) ++ replicate (n - length (xs ++ (x ∷ []))) z
fill-next z n xs k x e h =
    let a : n - length xs ≡ suc (n - (k + 1)) = omega arith in
    let b : n - (k + 1) ≡ n - length (xs ++ (x ∷ [])) = omega (arith, length-append xs (x ∷ [])) in
    ap (λ (m : ℕ). set (xs ++ replicate m z) k x) a ∙ set_at xs z (replicate (n - (k + 1)) z) x k e ∙ sym (append_snoc xs x (replicate (n - (k + 1)) z))
    ∙ ap (λ (m : ℕ). (xs ++ (x ∷ [])) ++ replicate m z) b
