-- A step is taken where its test passes, and leaves the masks where it does not. Assumes nothing.
use mathlib.Core.Path.{◌≡◌, sym}
use mathlib.Core.Bool.{Bool, true, false}
use mathlib.Core.List.{List}
use Prim.Native.Nat.{ℕ}
use Rattle.candidates.proofs.Tests.{cond-true, cond-false}
use Rattle.steps.specs.Boards.{Under}
use Rattle.steps.specs.Loops.{each}
use Rattle.steps.specs.Steps.{Step, applies, lose_all, step_taken}
use Rattle.steps.proofs.Loops.{each_keeps}
use Rattle.steps.proofs.Masks.{under-refl, under-trans}
use Rattle.steps.proofs.Steps.{take-under}

module _ (free : ℕ → Bool) (s : Step) (m : List ℕ) where
  pub taken : applies s m ≡ true → lose_all free s.hits s.loses m ≡ step_taken free s m
  unfolding step_taken
  taken t = sym (cond-true (applies s m) (lose_all free s.hits s.loses m) m t)

  pub left_alone : applies s m ≡ false → m ≡ step_taken free s m
  unfolding step_taken
  left_alone t = sym (cond-false (applies s m) (lose_all free s.hits s.loses m) m t)

-- steps only take away
pub takes-under : {A : Type 0} (free : ℕ → Bool) (step : A → Step) (xs : List A) (m : List ℕ) → Under (each (λ x. step_taken free (step x)) xs m) m
takes-under free step xs m =
    each_keeps (λ x. step_taken free (step x)) (λ (n : List ℕ). Under n m) xs (λ x k n p. under-trans (take-under free (step x) n) p) m (under-refl m)
