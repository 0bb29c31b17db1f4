-- `step_lists::kinds::claiming_step` meets its contract. Assumes nothing.
use mathlib.Core.Path.{sym, ap, ◌∙◌, subst}
use Prim.Native.Nat.{ℕ, ◌-◌, ◌<◌}
use native.Mathlib.Omega.{arith}
use Rattle.steps.specs.Boards.{is_open}
use Rattle.steps.specs.Instances.{locked_step, claiming}
use Rattle.steps.specs.Steps.{step_taken}
use Rattle.steps.specs.code.Decoding.{box_in}
use Rattle.steps.proofs.StepBytes.{ClaimingParts, claiming-parts, box-few}
use Rattle.cells.specs.code.Meets.{meetings, met_unit}
use Rattle.cells.proofs.Losses.{told_none}
use Rattle.cells.proofs.Meetings.{three-boxes}
use Rattle.step_lists.proofs.Named.{after-taken, after-left, claiming-taken}
use Rattle.step_lists.proofs.kinds.claiming_step.Goals as goal

pub take_locked-requires : goal.take_locked-requires
take_locked-requires c =
    let parts : ClaimingParts c.args.line c.args.digit c.args.block c.args.y c.args.z = (
    let a = c.args in
    claiming-parts a.line a.digit a.block a.y a.z (sym c.is_claiming.ensures ∙ c.if-is_claiming.true)
    ) in
    let w = parts in
    (omega (arith, w.line), omega (arith, w.digit.0, w.digit.1), subst (λ (x : ℕ). x < meetings c.args.line) (sym c.box_in.ensures) (subst (λ (n : ℕ). box_in c.args.line c.args.block < n) (sym (three-boxes w.line)) (box-few c.args.line c.args.block)))

pub returns-then-is_claiming : goal.returns-then-is_claiming
returns-then-is_claiming c =
    let parts : ClaimingParts c.args.line c.args.digit c.args.block c.args.y c.args.z = (
    let a = c.args in
    claiming-parts a.line a.digit a.block a.y a.z (sym c.is_claiming.ensures ∙ c.if-is_claiming.true)
    ) in
    let a = c.args in
    let g = a.givens.now in
    let m = a.masks.now in
    let w = parts in
    let e =
    c.take_locked.ensures.masks_after ∙ ap (λ (k : ℕ). step_taken (is_open g) (locked_step a.line (met_unit a.line k) (a.digit - 1)) m) c.box_in.ensures
    ∙ claiming-taken g m a.line (a.digit - 1) (box_in a.line a.block) w.line (box-few a.line a.block)
    ∙ after-taken g m (claiming a.line (a.digit - 1) (box_in a.line a.block)) (sym c.is_claiming.ensures ∙ c.if-is_claiming.true) in record {
      masks_after = e;
      value = c.take_locked.ensures.value;
    }

pub returns-else-is_claiming : goal.returns-else-is_claiming
returns-else-is_claiming c =
    let a = c.args in record {
      masks_after = after-left a.givens.now a.masks.now (claiming a.line (a.digit - 1) (box_in a.line a.block)) (sym c.is_claiming.ensures ∙ c.if-is_claiming.false);
      value = c.if-is_claiming.false ∙ told_none a.masks.now;
    }
