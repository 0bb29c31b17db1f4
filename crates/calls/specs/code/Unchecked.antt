-- A step on masks that its check would admit.
use Rattle.std.specs.Prelude.{List, ℕ}
use Rattle.std.proofs.Math.Option.{Option, none, some}
use Rattle.steps.specs.Calls.{Call, outcome}
use Rattle.calls.specs.StepNumbers.{step_call}

-- the masks that a call leaves; as they were where there is none
abbrev pub call_masks : Option Call → List ℕ → List ℕ → List ℕ
call_masks none g m = m
call_masks (some k) g m = (outcome k g m).masks

unfoldable pub step_masks : ℕ → List ℕ → List ℕ → List ℕ
step_masks n g m = call_masks (step_call n) g m
