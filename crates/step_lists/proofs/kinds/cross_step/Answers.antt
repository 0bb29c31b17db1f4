-- `step_lists::kinds::cross_step` meets its contract. Assumes nothing.
use mathlib.Core.Path.{sym, ◌∙◌}
use Prim.Native.Nat.{◌-◌}
use Rattle.steps.specs.Instances.{cross}
use Rattle.steps.proofs.StepBytes.{CrossParts, cross-parts}
use Rattle.cells.proofs.Losses.{told_none}
use Rattle.step_lists.proofs.Named.{after-taken, after-left, cross-is}
use Rattle.step_lists.proofs.kinds.cross_step.Goals as goal

pub returns-then-is_cross : goal.returns-then-is_cross
returns-then-is_cross c =
    let parts : CrossParts 0 9 c.args.digit c.args.u c.args.v c.args.x c.args.y = (
    let a = c.args in
    cross-parts 0 9 a.digit a.u a.v a.x a.y (sym c.is_cross.ensures ∙ c.if-is_cross.true)
    ) in
    let a = c.args in
    let g = a.givens.now in
    let m = a.masks.now in
    let w = parts in
    let e =
    c.take_cross.ensures.masks_after ∙ cross-is g m (a.digit - 1) a.u a.v (a.x - 9) (a.y - 9)
    ∙ after-taken g m (cross (a.digit - 1) a.u a.v (a.x - 9) (a.y - 9)) (sym c.is_cross.ensures ∙ c.if-is_cross.true) in record {
      masks_after = e;
      value = c.take_cross.ensures.value;
    }

pub returns-else-is_cross : goal.returns-else-is_cross
returns-else-is_cross c =
    let a = c.args in record {
      masks_after = after-left a.givens.now a.masks.now (cross (a.digit - 1) a.u a.v (a.x - 9) (a.y - 9)) (sym c.is_cross.ensures ∙ c.if-is_cross.false);
      value = c.if-is_cross.false ∙ told_none a.masks.now;
    }
