use mathlib.Core.Path.{sym, ap, ◌∙◌}
use mathlib.Core.Option.{Option, some}
use Rattle.steps.specs.Calls.{Call}
use Rattle.calls.specs.code.QuietSteps.{call_of_step}
use Rattle.calls.specs.code.Unchecked.{call_masks, step_masks}
use Rattle.calls.specs.declared.kinds.Step.{Step}
use Rattle.calls.proofs.lists.step_masks.Goals as goal

pub returns-in_default : goal.returns-in_default
unfolding step_masks
returns-in_default c = ap (λ (o : Option Call). call_masks o c.args.givens.now c.args.masks.now) c.in_default.ensures

pub returns-in-Search : goal.returns-in-Search
unfolding step_masks
returns-in-Search c =
    c.search_masks.ensures ∙ ap (λ (o : Option Call). call_masks o c.args.givens.now c.args.masks.now) (ap (λ (x : Step). some (call_of_step x)) (sym c.in-Search.is) ∙ c.in-Some.ensures)

pub returns-in-Quiet : goal.returns-in-Quiet
unfolding step_masks
returns-in-Quiet c =
    c.quiet_masks.ensures ∙ ap (λ (o : Option Call). call_masks o c.args.givens.now c.args.masks.now) (ap (λ (x : Step). some (call_of_step x)) (sym c.in-Quiet.is) ∙ c.in-Some.ensures)
