-- The calls that report under their numbers, and the others as quiet steps.
use mathlib.Core.Path.{sym, ap, ◌∙◌}
use mathlib.Core.Option
use mathlib.Core.Option.{some}
use Rattle.std.specs.Prelude.{Ok, Err}
use Rattle.stops.specs.Answer.{gives, map}
use Rattle.steps.specs.Boards.{with_masks}
use Rattle.steps.specs.Calls.{answer}
use Rattle.board.specs.Boards.{board_of}
use Rattle.techniques.specs.code.Searches.{search_call}
use Rattle.techniques.proofs.Left.{masks-left}
use Rattle.calls.specs.StepNumbers.{step_left, stepped}
use Rattle.calls.specs.code.QuietSteps.{call_of_step, quiet_call}
use Rattle.calls.specs.declared.Stepped.{Stepped}
use Rattle.calls.specs.declared.kinds.Step.{Step}
use Rattle.calls.proofs.Arms.{no-step-is, quiet-hands, quiet-unreporting, reported-hands, step_is, step-refused, uncounted-search}
use Rattle.calls.proofs.step.Goals as goal

pub returns-in_default : goal.returns-in_default
returns-in_default c =
    let b = board_of c.args.board.now in
    let is = no-step-is b c.args.number c.in_default.ensures in
    record { told = ap (Option.map (map stepped)) is; board = ap (step_left b) is }

pub returns-in_err-report-in-Search : goal.returns-in_err-report-in-Search
returns-in_err-report-in-Search c =
    let b = board_of c.args.board.now in
    let k = search_call c.in-Search.search in
    let e = c.in_err-report-in-Search.ensures in
    let is = step_is b k c.args.number (ap (λ (x : Step). some (call_of_step x)) (sym c.in-Search.is) ∙ c.in-Some.ensures) in record {
      told = step-refused _ c.from_residual.ensures.1 ∙ ap some (reported-hands k b (uncounted-search c.in-Search.search) (Err c.in_err-report-in-Search.field-0.0) e.flag e.reports) ∙ ap (Option.map (map stepped)) is;
      board = e.board ∙ ap (step_left b) is;
    }

pub returns-in_ok-report-in-Search : goal.returns-in_ok-report-in-Search
returns-in_ok-report-in-Search c =
    let b = board_of c.args.board.now in
    let k = search_call c.in-Search.search in
    let e = c.in_ok-report-in-Search.ensures in
    let is = step_is b k c.args.number (ap (λ (x : Step). some (call_of_step x)) (sym c.in-Search.is) ∙ c.in-Some.ensures) in record {
      told = ap (λ (x : Stepped). some (gives x)) c.of_reported.ensures ∙ ap some (reported-hands k b (uncounted-search c.in-Search.search) (Ok c.in_ok-report-in-Search.field-0) e.flag e.reports) ∙ ap (Option.map (map stepped)) is;
      board = e.board ∙ ap (step_left b) is;
    }

pub returns-in_err-quiet_handed-in-Quiet : goal.returns-in_err-quiet_handed-in-Quiet
returns-in_err-quiet_handed-in-Quiet c =
    let b = board_of c.args.board.now in
    let k = quiet_call c.in-Quiet.quiet in
    let e = c.in_err-quiet_handed-in-Quiet.ensures in
    let is = step_is b k c.args.number (ap (λ (x : Step). some (call_of_step x)) (sym c.in-Quiet.is) ∙ c.in-Some.ensures) in record {
      told = step-refused _ c.from_residual-in_err-quiet_handed-in-Quiet.ensures.1 ∙ ap some (quiet-hands k b (quiet-unreporting c.in-Quiet.quiet) e.told) ∙ ap (Option.map (map stepped)) is;
      board = ap (with_masks b) e.masks_after ∙ masks-left b (answer k b) ∙ ap (step_left b) is;
    }

pub returns-in_ok-quiet_handed-in-Quiet : goal.returns-in_ok-quiet_handed-in-Quiet
returns-in_ok-quiet_handed-in-Quiet c =
    let b = board_of c.args.board.now in
    let k = quiet_call c.in-Quiet.quiet in
    let e = c.in_ok-quiet_handed-in-Quiet.ensures in
    let is = step_is b k c.args.number (ap (λ (x : Step). some (call_of_step x)) (sym c.in-Quiet.is) ∙ c.in-Some.ensures) in record {
      told = ap (λ (x : Stepped). some (gives x)) c.of_told.ensures ∙ ap some (quiet-hands k b (quiet-unreporting c.in-Quiet.quiet) e.told) ∙ ap (Option.map (map stepped)) is;
      board = ap (with_masks b) e.masks_after ∙ masks-left b (answer k b) ∙ ap (step_left b) is;
    }
