-- What settling hands back.
use Rattle.std.specs.Prelude.{◌≡◌, List, [], ◌++◌, ℕ, ◌-◌, length, replicate, Result}
use Rattle.stops.specs.Answer.{answer_of, map, value_or}
use Rattle.stops.specs.declared.Stop.{Stop}
use Rattle.steps.specs.Boards as S
use Rattle.steps.specs.Calls.{Outcome, settling_call, answer, left}
use Rattle.steps.specs.Difficulty.{pass_counts}
use Rattle.steps.specs.Instances.{Instance}
use Rattle.steps.specs.StepLists.{bytes_of, settling_steps}
use Rattle.passes.specs.declared.Counts.{Counts}
use Rattle.passes.specs.declared.Settled.{Settled}

-- "Returns sweeps (that last one counted, at most 730) and removed."
abbrev pub counts_of : Outcome → Counts
counts_of o = record { sweeps = o.sweeps; removed = o.removed }

-- "the list of its own effective steps, in the order done"; none beside a refusal
unfoldable pub steps_done : S.Board → List Instance
steps_done b = value_or [] (map (λ _. settling_steps (S.givens b) b.masks) (answer settling_call b))

-- the bytes of at most 729 steps, and zeros after the last
unfoldable pub in_room : List Instance → List ℕ
in_room xs = bytes_of xs ++ replicate (4374 - length (bytes_of xs)) 0

-- "Settling shall count what each wide pass removed"; zeros beside a refusal
unfoldable pub counts_done : S.Board → List ℕ
counts_done b = value_or (replicate 6 0) (map (λ _. pass_counts (S.givens b) b.masks) (answer settling_call b))

-- what the call answers on the board: its stop, or its counts, its steps "with their count" and what each pass removed; and the board that it leaves
pub record Settles (b : S.Board) (r : Result Settled Stop) (after : S.Board) : Type 0 where
  pub counts : map (λ s. s.counts) (answer_of r) ≡ map counts_of (answer settling_call b)
  pub board : after ≡ left b (answer settling_call b)
  pub steps : map (λ s. s.steps.bytes) (answer_of r) ≡ map (λ _. in_room (steps_done b)) (answer settling_call b)
  pub step_count : map (λ s. s.steps.count) (answer_of r) ≡ map (λ _. length (steps_done b)) (answer settling_call b)
  pub passes : map (λ s. s.by_pass) (answer_of r) ≡ map (λ _. counts_done b) (answer settling_call b)
