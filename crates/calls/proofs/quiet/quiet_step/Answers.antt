-- A number's step is a quiet one, one that reports, or none.
use mathlib.Core.Path.{◌≡◌, sym, ap, ◌∙◌}
use mathlib.Core.Option
use mathlib.Core.Option.{Option, some}
use Rattle.stops.specs.Answer.{Answer, map}
use Rattle.steps.specs.Boards as S
use Rattle.steps.specs.Calls.{Outcome}
use Rattle.board.specs.Boards.{handed}
use Rattle.calls.specs.StepNumbers.{step_left}
use Rattle.calls.specs.code.QuietSteps.{call_of_step, told_of}
use Rattle.calls.specs.declared.kinds.Step.{Step}
use Rattle.calls.proofs.Arms.{no-quiet-is, quiet_is, search-is, step-refused}
use Rattle.calls.proofs.quiet.quiet_step.Goals as goal

told-as : {o p : Option (Answer Outcome)} → o ≡ p → Option.map (map told_of) o ≡ Option.map (map told_of) p
told-as e = ap (Option.map (map told_of)) e

left-as : (b : S.Board) {o p : Option (Answer Outcome)} → o ≡ p → (step_left b o).masks ≡ (step_left b p).masks
left-as b e = ap (λ (o : Option (Answer Outcome)). (step_left b o).masks) e

pub returns-in_err-quiet_handed-in-Some-Quiet : goal.returns-in_err-quiet_handed-in-Some-Quiet
returns-in_err-quiet_handed-in-Some-Quiet c =
    let b = handed c.args.clues.now c.args.entries.now c.args.masks.now in
    let q = c.in-Some-Quiet in
    let e = c.in_err-quiet_handed-in-Some-Quiet.ensures in
    let is = quiet_is b q.step c.args.number (ap (λ (x : Step). some (call_of_step x)) (sym q.field-0-is) ∙ q.ensures) in
    record { told = step-refused _ c.from_residual.ensures.1 ∙ ap some e.told ∙ told-as is; masks_after = e.masks_after ∙ left-as b is }

pub returns-in_ok-quiet_handed-in-Some-Quiet : goal.returns-in_ok-quiet_handed-in-Some-Quiet
returns-in_ok-quiet_handed-in-Some-Quiet c =
    let b = handed c.args.clues.now c.args.entries.now c.args.masks.now in
    let q = c.in-Some-Quiet in
    let e = c.in_ok-quiet_handed-in-Some-Quiet.ensures in
    let is = quiet_is b q.step c.args.number (ap (λ (x : Step). some (call_of_step x)) (sym q.field-0-is) ∙ q.ensures) in
    record { told = ap some e.told ∙ told-as is; masks_after = e.masks_after ∙ left-as b is }

pub returns-in-Some-Search : goal.returns-in-Some-Search
returns-in-Some-Search c =
    let b = handed c.args.clues.now c.args.entries.now c.args.masks.now in
    let s = c.in-Some-Search in
    let is = search-is b s.field-0-0 c.args.number (ap (λ (x : Step). some (call_of_step x)) (sym s.field-0-is) ∙ s.ensures) in
    record { told = told-as is; masks_after = left-as b is }

pub returns-in-None : goal.returns-in-None
returns-in-None c =
    let b = handed c.args.clues.now c.args.entries.now c.args.masks.now in
    let is = no-quiet-is b c.args.number c.in-None.ensures in
    record { told = told-as is; masks_after = left-as b is }
