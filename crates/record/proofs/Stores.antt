-- Bytes that are written one after the other: runs of stores that follow each other, and runs that do not touch. Assumes nothing.
use mathlib.Core.Path.{◌≡◌, refl, sym, ap, ◌∙◌}
use mathlib.Core.List.{List, [], ◌∷◌, ◌++◌}
use Prim.Native.Nat.{ℕ, suc, ◌+◌, ◌≤◌, ◌<◌}
use native.Mathlib.Nat.{add-zero}
use native.Mathlib.Omega.{arith}
use lib.ListN.{length, set, take, drop}
use lib.Seq.{set_comm, sets, sets-eq, take-append_seam}
use Rattle.record.specs.Sections.{stored}

-- one run after the other
pub stored-append : (l : List ℕ) (i : ℕ) (xs ys : List ℕ) → stored l i (xs ++ ys) ≡ stored (stored l i xs) (i + length xs) ys
stored-append l i [] ys = ap (λ (k : ℕ). sets l k ys) (sym (add-zero i))
stored-append l i (x ∷ xs) ys =
    let e : suc i + length xs ≡ i + suc (length xs) = omega arith in
    stored-append (set l i x) (suc i) xs ys ∙ ap (λ (k : ℕ). sets (sets (set l i x) (suc i) xs) k ys) e

-- a run below another may as well be written after it
set-stored : (l : List ℕ) (j a i : ℕ) (vs : List ℕ) → j < i → stored (set l j a) i vs ≡ set (stored l i vs) j a
set-stored l j a i [] h = refl
set-stored l j a i (v ∷ vs) h =
    ap (λ (m : List ℕ). sets m (suc i) vs) (set_comm l j i a v (λ e. absurd (omega arith))) ∙ set-stored (set l i v) j a (suc i) vs (omega arith)

pub stored-apart : (l : List ℕ) (j : ℕ) (xs : List ℕ) (i : ℕ) (vs : List ℕ) → j + length xs ≤ i → stored (stored l j xs) i vs ≡ stored (stored l i vs) j xs
stored-apart l j [] i vs h = refl
stored-apart l j (x ∷ xs) i vs h =
    stored-apart (set l j x) (suc j) xs i vs (omega arith) ∙ ap (λ (m : List ℕ). sets m (suc j) xs) (set-stored l j x i vs (omega arith))

-- what stands in front of the array once it is written there
pub first-stored : (l r : List ℕ) → length r ≤ length l → take (length r) (stored l 0 r) ≡ r
first-stored l r h = ap (take (length r)) (sets-eq r l 0 (omega arith)) ∙ take-append_seam r (drop (0 + length r) l)
