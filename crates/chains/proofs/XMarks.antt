-- The walk, cell by cell, as marks of the ends that it finds. Assumes nothing.
use mathlib.Core.Path.{◌≡◌, refl, sym, ap, ◌∙◌}
use mathlib.Core.Bool.{Bool, true, false, cond, not}
use mathlib.Core.List.{List, [], ◌∷◌, ◌++◌}
use Prim.Native.Nat.{ℕ, suc, ◌-◌, ◌≤◌, ◌<◌}
use native.Mathlib.Omega.{arith}
use borrow.Author.Tests.{ltb-true, ltb-false, lt-ltb, le-ltb}
use lib.Dec.{ltb}
use lib.ListN.{length, set}
use Rattle.std.specs.Prelude.{Some, None}
use Rattle.std.proofs.lemmas.Option.{none-some, same_Some}
use Rattle.candidates.proofs.Tests.{cond-true, cond-false}
use Rattle.steps.specs.Chains.{on_path}
use Rattle.steps.specs.Loops.{each, for, up_to}
use Rattle.steps.proofs.Loops.{each_append, each-for, each-idle}
use Rattle.chains.specs.code.XLinks.{some_cell, link_at, end_here, if_cell, walk_ends, marked}

-- what the ith link marks, after k cells and the cell c
abbrev pub link_marks : List ℕ → List ℕ → ℕ → Bool → List ℕ → ℕ → ℕ → List Bool → List Bool
link_marks linked sums n weak path c i = marked (if_cell (link_at linked sums weak c i) (walk_ends linked sums n (not weak) (c ∷ path) (link_at linked sums weak c i)))

-- k cells stand before the cell c
module _ (linked sums : List ℕ) (k : ℕ) (weak : Bool) (path : List ℕ) (c : ℕ) (short : k ≤ 5) (size : length path ≡ k) where
  entered : walk_ends linked sums (6 - k) weak path c
      ≡ cond (on_path c path) [] (end_here weak k c ++ for (up_to (cond weak (length linked) 3)) (λ i. if_cell (link_at linked sums weak c i) (walk_ends linked sums (5 - k) (not weak) (c ∷ path) (link_at linked sums weak c i))))
  unfolding walk_ends
  entered =
      let e : 6 - k ≡ suc (5 - k) = omega arith in
      ap (λ (n : ℕ). walk_ends linked sums n weak path c) e
      ∙ ap (λ (j : ℕ). cond (on_path c path) [] (end_here weak j c ++ for (up_to (cond weak (length linked) 3)) (λ i. if_cell (link_at linked sums weak c i) (walk_ends linked sums (5 - k) (not weak) (c ∷ path) (link_at linked sums weak c i))))) size

  pub visited : on_path c path ≡ true → (ends : List Bool) → ends ≡ marked (walk_ends linked sums (6 - k) weak path c) ends
  unfolding marked each
  visited t ends = sym (ap (λ (l : List ℕ). marked l ends) (entered ∙ cond-true (on_path c path) [] _ t))

  pub onward : on_path c path ≡ false → (ends : List Bool)
      → each (link_marks linked sums (5 - k) weak path c) (up_to (cond weak (length linked) 3)) (marked (end_here weak k c) ends) ≡ marked (walk_ends linked sums (6 - k) weak path c) ends
  unfolding marked
  onward t ends =
      let links = for (up_to (cond weak (length linked) 3)) (λ i. if_cell (link_at linked sums weak c i) (walk_ends linked sums (5 - k) (not weak) (c ∷ path) (link_at linked sums weak c i))) in
      sym (ap (λ (l : List ℕ). marked l ends) (entered ∙ cond-false (on_path c path) [] (end_here weak k c ++ links) t)
      ∙ each_append (λ c l. set l c true) (end_here weak k c) links ends
      ∙ each-for (λ c l. set l c true) (up_to (cond weak (length linked) 3)) (λ i. if_cell (link_at linked sums weak c i) (walk_ends linked sums (5 - k) (not weak) (c ∷ path) (link_at linked sums weak c i))) (marked (end_here weak k c) ends))

  -- at the last depth there is nothing to go on to
  pub deepest : on_path c path ≡ false → k ≡ 5 → (ends : List Bool) → marked (end_here weak k c) ends ≡ marked (walk_ends linked sums (6 - k) weak path c) ends
  unfolding walk_ends marked each
  deepest t e ends =
      sym (ap (λ (n : ℕ). each (link_marks linked sums n weak path c) (up_to (cond weak (length linked) 3)) (marked (end_here weak k c) ends)) zero
      ∙ each-idle (link_marks linked sums 0 weak path c) (up_to (cond weak (length linked) 3)) (marked (end_here weak k c) ends) (λ i l. nothing (ltb (link_at linked sums weak c i) 81) (marked (end_here weak k c) ends)))
      ∙ onward t ends
    where
      zero : 5 - k ≡ 0
      zero = omega (arith, e)

      nothing : (t : Bool) (l : List Bool) → marked (cond t [] []) l ≡ l
      nothing true l = refl
      nothing false l = refl

-- ---- 81 is no cell

pub cell-of : {x y : ℕ} → Some x ≡ some_cell y → (x ≡ y) × (x < 81)
cell-of {x} {y} e = go (ltb y 81) refl e
  where
    go : (t : Bool) → ltb y 81 ≡ t → Some x ≡ cond t (Some y) None → (x ≡ y) × (x < 81)
    go true t e =
        let w = same_Some x y e in
        (w, omega (arith, w, ltb-true y 81 t))
    go false t e = absurd (none-some x (sym e))

pub no_cell : {y : ℕ} → None ≡ some_cell y → 81 ≤ y
no_cell {y} e = go (ltb y 81) refl e
  where
    go : (t : Bool) → ltb y 81 ≡ t → None ≡ cond t (Some y) None → 81 ≤ y
    go true t e = absurd (none-some y e)
    go false t e = ltb-false y 81 t

-- one link of the loop: it is gone on to, or it is no cell
module _ (linked sums : List ℕ) (n : ℕ) (weak : Bool) (path : List ℕ) (c i : ℕ) where
  pub gone-on : (x : ℕ) → x ≡ link_at linked sums weak c i → x < 81 → (l : List Bool) → marked (walk_ends linked sums n (not weak) (c ∷ path) x) l ≡ link_marks linked sums n weak path c i l
  gone-on x is h l =
      ap (λ (xs : List ℕ). marked xs l) (sym (cond-true (ltb x 81) (walk_ends linked sums n (not weak) (c ∷ path) x) [] (lt-ltb x 81 h)))
      ∙ ap (λ (y : ℕ). marked (if_cell y (walk_ends linked sums n (not weak) (c ∷ path) y)) l) is

  pub no-link : 81 ≤ link_at linked sums weak c i → (l : List Bool) → l ≡ link_marks linked sums n weak path c i l
  unfolding marked each
  no-link h l =
      let x = link_at linked sums weak c i in
      ap (λ (xs : List ℕ). marked xs l) (sym (cond-false (ltb x 81) (walk_ends linked sums n (not weak) (c ∷ path) x) [] (le-ltb x 81 h)))
