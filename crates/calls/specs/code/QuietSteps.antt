-- The steps of the code as calls, and what a step that reports nothing tells.
use Rattle.std.specs.Prelude.{Bool, true, false, cond, ℕ}
use Rattle.std.proofs.Math.Option
use Rattle.std.proofs.Math.Option.{Option, none, some}
use Rattle.stops.specs.Answer.{Answer}
use Rattle.steps.specs.Boards as S
use Rattle.steps.specs.Calls.{Call, update_candidates, naked_pairs_call, box_line_call, x_wing_call, naked_singles_call, hidden_singles_call, advanced_call, wide, settling_call, chain_call, x_chain_call, Outcome, answer}
use Rattle.techniques.specs.code.Searches.{search_call}
use Rattle.eliminations.specs.code.Calls.{call_of}
use Rattle.calls.specs.StepNumbers.{step_call}
use Rattle.calls.specs.declared.kinds.QuietStep.{QuietStep}
use Rattle.calls.specs.declared.kinds.QuietStep.TheVariants.{Update, Eliminate, Settle}
use Rattle.calls.specs.declared.kinds.Step.{Step}
use Rattle.calls.specs.declared.kinds.Step.TheVariants.{Search, Quiet}
use Rattle.calls.specs.declared.quiet.Told.{Told}

abbrev pub quiet_call : QuietStep → Call
quiet_call Update = update_candidates
quiet_call (Eliminate x) = call_of x
quiet_call Settle = settling_call

abbrev pub call_of_step : Step → Call
call_of_step (Search s) = search_call s
call_of_step (Quiet q) = quiet_call q

-- an outcome's flag, and what it counts
abbrev pub told_of : Outcome → Told
told_of o = record { made = o.flag; sweeps = o.sweeps; removed = o.removed }

-- the calls that report singles
abbrev pub is_reporting : Call → Bool
is_reporting update_candidates = false
is_reporting naked_pairs_call = false
is_reporting box_line_call = false
is_reporting x_wing_call = false
is_reporting naked_singles_call = true
is_reporting hidden_singles_call = true
is_reporting advanced_call = true
is_reporting (wide k) = false
is_reporting settling_call = false
is_reporting chain_call = false
is_reporting x_chain_call = false

-- a call that reports nothing
abbrev pub unreporting : Option Call → Option Call
unreporting none = none
unreporting (some k) = cond (is_reporting k) none (some k)

-- what the step of a number answers; nothing where its call reports, and where the number is no step's
unfoldable pub quiet_answer : ℕ → S.Board → Option (Answer Outcome)
quiet_answer n b = Option.map (λ k. answer k b) (unreporting (step_call n))
