-- The order in which things are done. `each` does a thing for each member of a list, the first first; the loops of the paper are ranges of numbers, one inside the other.
unfoldable pub use Rattle.grid.specs.Lists.{each}
pub use Rattle.grid.specs.Lists.{range, select, all}
use Rattle.std.specs.Prelude.{Bool, false, cond, ◌||◌, List, [], ◌∷◌, ◌++◌, ℕ, ◌+◌, ◌-◌}
use Rattle.std.proofs.Math.Option.{Option, none, some}

-- 0 to n - 1, rising
abbrev pub up_to : ℕ → List ℕ
up_to n = range n 0

-- the numbers above i and below n, rising
abbrev pub above : ℕ → ℕ → List ℕ
above i n = range (n - (i + 1)) (i + 1)

module _ {A B : Type 0} where
  -- the lists that f gives, one after the other
  unfoldable pub for : List A → (A → List B) → List B
  for [] f = []
  for (x ∷ xs) f = f x ++ for xs f

-- the first member of the list that passes
unfoldable pub first : (ℕ → Bool) → List ℕ → Option ℕ
first f [] = none
first f (x ∷ xs) = let r = first f xs in cond (f x) (some x) r

-- some member of the list passes
abbrev pub any : (ℕ → Bool) → List ℕ → Bool
any f [] = false
any f (x ∷ xs) = f x || any f xs
