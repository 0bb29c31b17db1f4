-- The board calls by their step numbers, and what a step hands back.
use Rattle.std.specs.Prelude.{◌≡◌, Bool, true, false, List, [], ◌∷◌, map, ℕ, get_or, Result, Ok, Err}
use Rattle.std.proofs.Math.Option
use Rattle.std.proofs.Math.Option.{Option, none, some}
use Rattle.stops.specs.Answer as answers
use Rattle.stops.specs.Answer.{Answer, gives, stop, value_or}
use Rattle.steps.specs.Boards as S
use Rattle.steps.specs.Calls.{Call, update_candidates, naked_pairs_call, box_line_call, x_wing_call, naked_singles_call, hidden_singles_call, advanced_call, wide, settling_call, chain_call, x_chain_call, Outcome, answer, left}
use Rattle.steps.specs.Passes.{Lone, Place, Pair, Pointing, Claiming, Cross}
use Rattle.techniques.specs.Reports.{reports_of}
use Rattle.calls.specs.declared.Stepped.{Stepped}
use Rattle.calls.specs.declared.StepError.{StepError}
use Rattle.calls.specs.declared.StepError.TheVariants.{NoStep, Refused}

-- "Board calls: `update_candidates`, naked pairs, box-line, X-wing, naked singles, hidden singles, `apply_advanced_techniques`, each wide pass, settling; also the chain pass", numbered from 0; a call that came later, Claiming and then the X-chain pass, has the next number
abbrev pub step_calls : List Call
step_calls =
    update_candidates ∷ naked_pairs_call ∷ box_line_call ∷ x_wing_call ∷ naked_singles_call ∷ hidden_singles_call ∷ advanced_call ∷ wide Lone ∷ wide Place ∷ wide Pair ∷ wide Pointing ∷ wide Cross ∷ settling_call ∷ chain_call ∷ wide Claiming ∷ x_chain_call ∷ []

-- the call of a step number
unfoldable pub step_call : ℕ → Option Call
step_call n = get_or (map some step_calls) n none

abbrev pub is_call : Option Call → Bool
is_call none = false
is_call (some k) = true

abbrev pub is_step : ℕ → Bool
is_step n = is_call (step_call n)

-- what the step of a number answers; nothing where the number is no step's
unfoldable pub step_answer : ℕ → S.Board → Option (Answer Outcome)
step_answer n b = Option.map (λ k. answer k b) (step_call n)

-- what a step returns: its value or a stop; nothing where its number is no step's
abbrev pub stepping : {A : Type 0} → Result A StepError → Option (Answer A)
stepping (Ok a) = some (gives a)
stepping (Err (Refused s)) = some (stop s)
stepping (Err NoStep) = none

-- the board that a step leaves: as it was beside a stop, and where the number is no step's
abbrev pub step_left : S.Board → Option (Answer Outcome) → S.Board
step_left b none = b
step_left b (some a) = left b a

-- a part of the outcome; z where there is none
abbrev pub outcome_or : {A : Type 0} → A → (Outcome → A) → Option (Answer Outcome) → A
outcome_or z part none = z
outcome_or z part (some a) = value_or z (answers.map part a)

-- an outcome as the value that is handed back, its reports in the value they stand in
abbrev pub stepped : Outcome → Stepped
stepped o = record { made = o.flag; reports = reports_of o.reports; sweeps = o.sweeps; removed = o.removed }

-- all that a step hands back, from the board that it was handed and from its answer, and the board that it leaves
pub record HandsBack (b : S.Board) (o : Option (Answer Outcome)) (r : Result Stepped StepError) (after : S.Board) : Type 0 where
  pub told : stepping r ≡ Option.map (answers.map stepped) o
  pub board : after ≡ step_left b o
