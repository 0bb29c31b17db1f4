-- The instances of Pair that two clues 5 at cells 0 and 1 make with each other digit, and what settling leaves below them. Assumes nothing.
use mathlib.Core.List.{List, [], ◌∷◌}
use Prim.Native.Nat.{ℕ, ◌<◌}
use lib.Dec.{lit<}
use Rattle.steps.specs.Boards.{total, Under}
use Rattle.steps.specs.Instances.{Instance, pair}
use Rattle.steps.specs.Loops.{each}
use Rattle.steps.specs.Passes.{Pair, instance_taken, settle}
use Rattle.steps.proofs.Instances.{pair-listed}
use Rattle.steps.proofs.Reach.{Reach, start, next, reach-under, reach-keeps}
use Rattle.steps.proofs.Settling.{settles-in}

unfoldable pub with_five : List Instance
with_five =
    pair 0 0 1 0 4 ∷ pair 0 0 1 1 4 ∷ pair 0 0 1 2 4 ∷ pair 0 0 1 3 4 ∷
    pair 0 0 1 4 5 ∷ pair 0 0 1 4 6 ∷ pair 0 0 1 4 7 ∷ pair 0 0 1 4 8 ∷ []

module _ (g m : List ℕ) where
  one : {n : List ℕ} (a b : ℕ) → a < b → b < 9 → Reach g m n → Reach g m (instance_taken g (pair 0 0 1 a b) n)
  one a b h k r = next r Pair (pair 0 0 1 a b) (pair-listed 0 0 1 a b (lit< tt) (lit< tt) (lit< tt) h k)

  reached : Reach g m (each (instance_taken g) with_five m)
  unfolding each with_five
  reached =
      one 4 8 (lit< tt) (lit< tt) (one 4 7 (lit< tt) (lit< tt) (one 4 6 (lit< tt) (lit< tt) (one 4 5 (lit< tt) (lit< tt)
      (one 3 4 (lit< tt) (lit< tt) (one 2 4 (lit< tt) (lit< tt) (one 1 4 (lit< tt) (lit< tt) (one 0 4 (lit< tt) (lit< tt) start)))))))

  -- what settling leaves is settled, so it is below whatever instances reach
  pub settled-below : total m < 730 → Under (settle g m).left (each (instance_taken g) with_five m)
  settled-below h =
      let s = settles-in g 730 m h in
      reach-keeps g s.ends (reach-under g s.reach) reached
