-- Bytes over lent ones, one more at a time, and how many there are. Assumes nothing.
use mathlib.Core.Path.{◌≡◌, refl, ap}
use mathlib.Core.List.{List, [], ◌∷◌, ◌++◌}
use Prim.Native.Nat.{ℕ, suc}
use lib.ListN.{length, set}
use Rattle.output.specs.Lent.{over}

pub over-push : (xs lent : List ℕ) (b : ℕ) → set (over xs lent) (length xs) b ≡ over (xs ++ (b ∷ [])) lent
over-push [] [] b = refl
over-push [] (y ∷ lent) b = refl
over-push (x ∷ xs) [] b = refl
over-push (x ∷ xs) (y ∷ lent) b = ap (λ (l : List ℕ). x ∷ l) (over-push xs lent b)

pub over-length : (xs lent : List ℕ) → length (over xs lent) ≡ length lent
over-length [] lent = refl
over-length (x ∷ xs) [] = refl
over-length (x ∷ xs) (y ∷ lent) = ap suc (over-length xs lent)
