-- `step_lists::kinds::take_step` meets its contract. Assumes nothing.
use mathlib.Core.Path.{◌∙◌}
use Prim.Native.Nat.{◌≤◌}
use native.Mathlib.Omega.{arith}
use Rattle.cells.proofs.Losses.{told_none}
use Rattle.step_lists.proofs.Named.{of-kind, no_kind}
use Rattle.step_lists.proofs.kinds.take_step.Goals as goal

pub returns-in-0 : goal.returns-in-0
returns-in-0 c =
    let a = c.args in record {
      masks_after = c.lone_step.ensures.masks_after ∙ of-kind a.givens.now a.masks.now a.p a.q a.r a.s a.t 0 c.in-0.is;
      value = c.lone_step.ensures.value;
    }

pub returns-in-1 : goal.returns-in-1
returns-in-1 c =
    let a = c.args in record {
      masks_after = c.place_step.ensures.masks_after ∙ of-kind a.givens.now a.masks.now a.p a.q a.r a.s a.t 1 c.in-1.is;
      value = c.place_step.ensures.value;
    }

pub returns-in-2 : goal.returns-in-2
returns-in-2 c =
    let a = c.args in record {
      masks_after = c.pair_step.ensures.masks_after ∙ of-kind a.givens.now a.masks.now a.p a.q a.r a.s a.t 2 c.in-2.is;
      value = c.pair_step.ensures.value;
    }

pub returns-in-3 : goal.returns-in-3
returns-in-3 c =
    let a = c.args in record {
      masks_after = c.pointing_step.ensures.masks_after ∙ of-kind a.givens.now a.masks.now a.p a.q a.r a.s a.t 3 c.in-3.is;
      value = c.pointing_step.ensures.value;
    }

pub returns-in-4 : goal.returns-in-4
returns-in-4 c =
    let a = c.args in record {
      masks_after = c.claiming_step.ensures.masks_after ∙ of-kind a.givens.now a.masks.now a.p a.q a.r a.s a.t 4 c.in-4.is;
      value = c.claiming_step.ensures.value;
    }

pub returns-in-5 : goal.returns-in-5
returns-in-5 c =
    let a = c.args in record {
      masks_after = c.cross_step.ensures.masks_after ∙ of-kind a.givens.now a.masks.now a.p a.q a.r a.s a.t 5 c.in-5.is;
      value = c.cross_step.ensures.value;
    }

pub returns-in-6 : goal.returns-in-6
returns-in-6 c =
    let a = c.args in record {
      masks_after = c.exchanged_step.ensures.masks_after ∙ of-kind a.givens.now a.masks.now a.p a.q a.r a.s a.t 6 c.in-6.is;
      value = c.exchanged_step.ensures.value;
    }

pub returns-in_default : goal.returns-in_default
returns-in_default c =
    let a = c.args in
    let most : 7 ≤ a.kind = omega arith in record {
      masks_after = no_kind a.givens.now a.masks.now a.p a.q a.r a.s a.t a.kind most;
      value = told_none a.masks.now;
    }
