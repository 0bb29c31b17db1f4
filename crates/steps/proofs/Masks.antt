-- The order of the 81 masks, and their candidates counted. Assumes nothing.
use mathlib.Core.Path.{◌≡◌, refl, sym, ap, ◌∙◌}
use mathlib.Core.Logic.{◌≢◌}
use mathlib.Core.Bool.{Bool, true, false, cond, true≢false}
use mathlib.Core.List.{List, [], ◌∷◌}
use Prim.Native.Nat.{ℕ, suc, ◌+◌, ◌≤◌, ◌<◌}
use native.Mathlib.Nat.{le_refl}
use native.Mathlib.Decide.{ℕ_discrete}
use native.Mathlib.Omega.{arith}
use borrow.Author.Tests.{eqb-true, eq-eqb}
use lib.Dec.{eqb}
use lib.ListN.{length}
use lib.Seq.{ext_get_or}
use Rattle.candidates.specs.Masks.{Sub, count}
use Rattle.candidates.proofs.Counts.{count-sub, count-proper}
use Rattle.candidates.proofs.Order.{sub_refl, sub_trans, sub-antisym}
use Rattle.steps.specs.Boards.{at, Under, total, same_by, same_masks}

pub under-refl : (m : List ℕ) → Under m m
under-refl m = record { at = λ c. sub_refl (at m c) }

pub under-trans : {m n k : List ℕ} → Under m n → Under n k → Under m k
under-trans p q = record { at = λ c. sub_trans (p.at c) (q.at c) }

pub under-eq : {m n : List ℕ} → m ≡ n → Under m n
under-eq {m} {n} e = rw e (under-refl n)

pub under-antisym : {m n : List ℕ} → length m ≡ length n → Under m n → Under n m → m ≡ n
under-antisym {m} {n} l p q = ext_get_or 0 m n l (λ c h. sub-antisym (p.at c) (q.at c))

-- ---- counting candidates

head-under : {x y : ℕ} {xs ys : List ℕ} → Under (x ∷ xs) (y ∷ ys) → Sub x y
head-under p = p.at 0

tail-under : {x y : ℕ} {xs ys : List ℕ} → Under (x ∷ xs) (y ∷ ys) → Under xs ys
tail-under p = record { at = λ c. p.at (suc c) }

pub total-under : (m n : List ℕ) → length m ≡ length n → Under m n → total m ≤ total n
unfolding total
total-under [] [] l p = le_refl 0
total-under [] (y ∷ ys) l p = absurd (omega arith)
total-under (x ∷ xs) [] l p = absurd (omega arith)
total-under (x ∷ xs) (y ∷ ys) l p = omega (arith, count-sub (head-under p), total-under xs ys (omega arith) (tail-under p))

-- fewer candidates where the masks differ
pub total-less : (m n : List ℕ) → length m ≡ length n → Under m n → m ≢ n → total m < total n
unfolding total
total-less [] [] l p d = absurd (d refl)
total-less [] (y ∷ ys) l p d = absurd (omega arith)
total-less (x ∷ xs) [] l p d = absurd (omega arith)
total-less (x ∷ xs) (y ∷ ys) l p d = go (ℕ_discrete x y) (λ h. total-less xs ys (omega arith) (tail-under p) h)
  where
    go : Dec (x ≡ y) → (xs ≢ ys → total xs < total ys) → count x + total xs < count y + total ys
    go (yes e) ih = omega (arith, ap count e, ih (λ q. d (cc)))
    go (no e) ih = omega (arith, count-proper (head-under p) e, total-under xs ys (omega arith) (tail-under p))

-- ---- the tests of equal lists

module _ {A : Type 0} (same : A → A → Bool) where
  pub list-refl : ((x : A) → same x x ≡ true) → (xs : List A) → same_by same xs xs ≡ true
  list-refl one [] = refl
  list-refl one (x ∷ xs) = rw (one x) (list-refl one xs)

  pub list-eq : ((x y : A) → same x y ≡ true → x ≡ y) → (xs ys : List A) → same_by same xs ys ≡ true → xs ≡ ys
  list-eq one [] [] t = refl
  list-eq one [] (y ∷ ys) t = absurd (true≢false (sym t))
  list-eq one (x ∷ xs) [] t = absurd (true≢false (sym t))
  list-eq one (x ∷ xs) (y ∷ ys) t = go (same x y) refl t (list-eq one xs ys)
    where
      go : (b : Bool) → same x y ≡ b → cond (same x y) (same_by same xs ys) false ≡ true → (same_by same xs ys ≡ true → xs ≡ ys) → x ∷ xs ≡ y ∷ ys
      go true e t ih =
          let p : x ≡ y = one x y e in
          let q : xs ≡ ys = ih (rw e at t) in
          cc
      go false e t ih = absurd (true≢false (sym (rw e at t)))

pub same_refl : (m : List ℕ) → same_masks m m ≡ true
same_refl = list-refl eqb (λ x. eq-eqb x x refl)

pub same-eq : (m n : List ℕ) → same_masks m n ≡ true → m ≡ n
same-eq = list-eq eqb eqb-true

pub differ : (m n : List ℕ) → same_masks m n ≡ false → m ≢ n
differ m n t e = true≢false (sym (same_refl m) ∙ ap (same_masks m) e ∙ t)
