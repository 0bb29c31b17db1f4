-- A path as the code has it, the first cell first, holds the cells of the path of the rule, which grows in front. Assumes nothing.
use mathlib.Core.Path.{◌≡◌, refl, ap, ◌∙◌}
use mathlib.Core.Bool.{Bool, true, false, ◌||◌}
use mathlib.Core.List.{List, [], ◌∷◌, ◌++◌, reverse}
use Prim.Native.Nat.{ℕ, ◌+◌}
use lib.Dec.{eqb}
use lib.ListN.{length}
use Rattle.std.specs.List.{list_any}
use Rattle.std.proofs.lemmas.List.{length-append, reverse-append}
use Rattle.steps.specs.Chains.{on_path}

path-append : (c : ℕ) (xs ys : List ℕ) → on_path c (xs ++ ys) ≡ on_path c ys || on_path c xs
path-append c [] ys = go (on_path c ys)
  where
    go : (t : Bool) → t ≡ t || false
    go true = refl
    go false = refl
path-append c (x ∷ xs) ys = ap (λ (t : Bool). eqb c x || t) (path-append c xs ys) ∙ go (eqb c x) (on_path c ys) (on_path c xs)
  where
    go : (a b c : Bool) → a || (b || c) ≡ b || (a || c)
    go true true c = refl
    go true false c = refl
    go false true c = refl
    go false false c = refl

turned : (c : ℕ) (xs : List ℕ) → on_path c (reverse xs) ≡ on_path c xs
turned c [] = refl
turned c (x ∷ xs) =
    ap (on_path c) (reverse-append (x ∷ []) xs) ∙ path-append c (reverse xs) (x ∷ []) ∙ go (eqb c x) (turned c xs)
  where
    go : (t : Bool) → on_path c (reverse xs) ≡ on_path c xs → (t || false) || on_path c (reverse xs) ≡ t || on_path c xs
    go true e = refl
    go false e = e

on-path-any : (c : ℕ) (xs : List ℕ) → on_path c xs ≡ list_any (eqb c) xs
on-path-any c [] = refl
on-path-any c (x ∷ xs) = ap (λ (t : Bool). eqb c x || t) (on-path-any c xs)

pub met : (c : ℕ) (xs : List ℕ) → on_path c (reverse xs) ≡ list_any (eqb c) xs
met c xs = turned c xs ∙ on-path-any c xs

-- one cell more
module _ (c : ℕ) (path longer : List ℕ) (e : longer ≡ path ++ (c ∷ [])) where
  pub in_front : reverse longer ≡ c ∷ reverse path
  in_front = ap reverse e ∙ reverse-append path (c ∷ [])

  pub one_longer : length longer ≡ length path + 1
  one_longer = ap length e ∙ length-append path (c ∷ [])
