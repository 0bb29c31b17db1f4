-- Two tables are one, by a test that the checker computes over all their rows. Assumes nothing.
use mathlib.Core.Path.{◌≡◌, refl, ap, ◌∙◌}
use mathlib.Core.Bool.{Bool, true, false, ◌&&◌}
use mathlib.Core.List.{List, [], ◌∷◌}
use Prim.Native.Nat.{ℕ}
use lib.Dec.{T, eqb, eqb→eq}
use Rattle.candidates.proofs.Tests.{and_left, and_right}

abbrev same_row : List ℕ → List ℕ → Bool
same_row [] [] = true
same_row [] (y ∷ ys) = false
same_row (x ∷ xs) [] = false
same_row (x ∷ xs) (y ∷ ys) = let r = same_row xs ys in eqb x y && r

abbrev pub same_table : List (List ℕ) → List (List ℕ) → Bool
same_table [] [] = true
same_table [] (y ∷ ys) = false
same_table (x ∷ xs) [] = false
same_table (x ∷ xs) (y ∷ ys) = let r = same_table xs ys in same_row x y && r

row_same : (a b : List ℕ) → T (same_row a b) → a ≡ b
row_same [] [] t = refl
row_same [] (y ∷ ys) t = absurd t
row_same (x ∷ xs) [] t = absurd t
row_same (x ∷ xs) (y ∷ ys) t =
    ap (λ (z : ℕ). z ∷ xs) (eqb→eq x y (and_left (eqb x y) (same_row xs ys) t)) ∙ ap (λ (l : List ℕ). y ∷ l) (row_same xs ys (and_right (eqb x y) (same_row xs ys) t))

pub table_same : (a b : List (List ℕ)) → T (same_table a b) → a ≡ b
table_same [] [] t = refl
table_same [] (y ∷ ys) t = absurd t
table_same (x ∷ xs) [] t = absurd t
table_same (x ∷ xs) (y ∷ ys) t =
    ap (λ (l : List ℕ). l ∷ xs) (row_same x y (and_left (same_row x y) (same_table xs ys) t))
    ∙ ap (λ (l : List (List ℕ)). y ∷ l) (table_same xs ys (and_right (same_row x y) (same_table xs ys) t))
