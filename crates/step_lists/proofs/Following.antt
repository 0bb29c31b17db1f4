-- A list of steps, followed from the i-th on: one that changes the masks is taken, one that does not is a stop. Assumes nothing.
use mathlib.Core.Path.{◌≡◌, sym, ap, ◌∙◌}
use mathlib.Core.Bool.{true, false}
use mathlib.Core.List.{List, map}
use mathlib.Core.Option.{Option}
use Prim.Native.Nat.{ℕ, ◌+◌, ◌-◌, ◌*◌, ◌≤◌, ◌<◌}
use native.Mathlib.Omega.{arith}
use lib.IntN.{pos}
use Rattle.stops.specs.Answer.{gives, stop}
use Rattle.stops.specs.declared.Stop.TheVariants.{BadStep}
use Rattle.candidates.proofs.Tests.{cond-true, cond-false}
use Rattle.grid.proofs.Lists.{range-on, range-end}
use Rattle.steps.specs.Instances.{Instance}
use Rattle.steps.specs.Loops.{range}
use Rattle.steps.specs.Passes.{changed}
use Rattle.steps.specs.StepLists.{step_count, steps_of, after_step, is_good, follow}
use Rattle.steps.specs.code.Decoding.{named_at}
use Rattle.steps.proofs.StepPieces.{steps-at}
use Rattle.steps.proofs.StepPromises.{good-changes}

module _ (bs : List ℕ) where
  abbrev step : ℕ → Option Instance
  step i = named_at bs (6 * i)

  -- n steps, from the i-th on
  unfoldable pub steps_from : ℕ → ℕ → List (Option Instance)
  steps_from n i = map step (range (n - i) i)

  pub from_first : (n : ℕ) → n ≡ step_count bs → steps_from n 0 ≡ steps_of bs
  unfolding steps_from
  from_first n e =
      let z : n - 0 ≡ step_count bs = omega (arith, e) in
      ap (λ (k : ℕ). map step (range k 0)) z ∙ sym (steps-at bs)

  module _ (g : List ℕ) (n i : ℕ) (m : List ℕ) where
    pub step-good : {o : List ℕ} → i < n → o ≡ after_step g (step i) m → changed m o ≡ true → follow g i (steps_from n i) m ≡ follow g (i + 1) (steps_from n (i + 1)) o
    unfolding steps_from follow
    step-good {o} h e t =
        ap (λ (is : List ℕ). follow g i (map step is) m) (range-on n i h)
        ∙ cond-true (is_good g (step i) m) (follow g (i + 1) (map step (range (n - (i + 1)) (i + 1))) (after_step g (step i) m)) (stop (BadStep (pos i))) (good-changes g (step i) m ∙ ap (changed m) (sym e) ∙ t)
        ∙ ap (follow g (i + 1) (map step (range (n - (i + 1)) (i + 1)))) (sym e)

    pub step-bad : {o : List ℕ} → i < n → o ≡ after_step g (step i) m → changed m o ≡ false → follow g i (steps_from n i) m ≡ stop (BadStep (pos i))
    unfolding steps_from follow
    step-bad {o} h e t =
        ap (λ (is : List ℕ). follow g i (map step is) m) (range-on n i h)
        ∙ cond-false (is_good g (step i) m) (follow g (i + 1) (map step (range (n - (i + 1)) (i + 1))) (after_step g (step i) m)) (stop (BadStep (pos i))) (good-changes g (step i) m ∙ ap (changed m) (sym e) ∙ t)

    pub steps-over : n ≤ i → follow g i (steps_from n i) m ≡ gives m
    unfolding steps_from follow
    steps-over h = ap (λ (is : List ℕ). follow g i (map step is) m) (range-end n i h)
