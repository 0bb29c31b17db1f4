-- `step_lists::kinds::take_at` meets its contract. Assumes nothing.
use mathlib.Core.Path.{◌∙◌}
use Rattle.cells.proofs.Losses.{told_none}
use Rattle.step_lists.proofs.Named.{at-six, at-short}
use Rattle.step_lists.proofs.kinds.take_at.Goals as goal

pub returns-then-at-steps : goal.returns-then-at-steps
returns-then-at-steps c =
    let a = c.args in
    let e =
    c.take_step.ensures.masks_after
    ∙ at-six a.givens.now a.masks.now a.steps.now a.at c.if-at-steps.true
    c.from.ensures c.from-then-at-steps.ensures c.from-then-at-steps-2.ensures c.from-then-at-steps-3.ensures c.from-then-at-steps-4.ensures c.from-then-at-steps-5.ensures in record {
      masks_after = e;
      value = c.take_step.ensures.value;
    }

pub returns : goal.returns
returns c =
    let a = c.args in record {
      masks_after = at-short a.givens.now a.masks.now a.steps.now a.at c.if-at-steps.false;
      value = told_none a.masks.now;
    }
