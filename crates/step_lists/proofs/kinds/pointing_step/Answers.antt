-- `step_lists::kinds::pointing_step` meets its contract. Assumes nothing.
use mathlib.Core.Path.{sym, ap, ◌∙◌, subst}
use Prim.Native.Nat.{ℕ, ◌-◌, ◌<◌}
use native.Mathlib.Omega.{arith}
use Rattle.steps.specs.Boards.{is_open}
use Rattle.steps.specs.Instances.{locked_step, pointing}
use Rattle.steps.specs.Steps.{step_taken}
use Rattle.steps.specs.code.Decoding.{line_in}
use Rattle.steps.proofs.StepBytes.{PointingParts, pointing-parts, line-few}
use Rattle.cells.specs.code.Meets.{meetings, met_unit}
use Rattle.cells.proofs.Losses.{told_none}
use Rattle.cells.proofs.Meetings.{six-lines}
use Rattle.step_lists.proofs.Named.{after-taken, after-left, pointing-taken}
use Rattle.step_lists.proofs.kinds.pointing_step.Goals as goal

pub take_locked-requires : goal.take_locked-requires
take_locked-requires c =
    let parts : PointingParts c.args.block c.args.digit c.args.line c.args.y c.args.z = (
    let a = c.args in
    pointing-parts a.block a.digit a.line a.y a.z (sym c.is_pointing.ensures ∙ c.if-is_pointing.true)
    ) in
    let w = parts in
    (w.high, omega (arith, w.digit.0, w.digit.1), subst (λ (x : ℕ). x < meetings c.args.block) (sym c.line_in.ensures) (subst (λ (n : ℕ). line_in c.args.line < n) (sym (six-lines w.low)) (line-few c.args.line)))

pub returns-then-is_pointing : goal.returns-then-is_pointing
returns-then-is_pointing c =
    let parts : PointingParts c.args.block c.args.digit c.args.line c.args.y c.args.z = (
    let a = c.args in
    pointing-parts a.block a.digit a.line a.y a.z (sym c.is_pointing.ensures ∙ c.if-is_pointing.true)
    ) in
    let a = c.args in
    let g = a.givens.now in
    let m = a.masks.now in
    let w = parts in
    let e =
    c.take_locked.ensures.masks_after ∙ ap (λ (k : ℕ). step_taken (is_open g) (locked_step a.block (met_unit a.block k) (a.digit - 1)) m) c.line_in.ensures
    ∙ pointing-taken g m a.block (a.digit - 1) (line_in a.line) w.low w.high (line-few a.line)
    ∙ after-taken g m (pointing (a.block - 18) (a.digit - 1) (line_in a.line)) (sym c.is_pointing.ensures ∙ c.if-is_pointing.true) in record {
      masks_after = e;
      value = c.take_locked.ensures.value;
    }

pub returns-else-is_pointing : goal.returns-else-is_pointing
returns-else-is_pointing c =
    let a = c.args in record {
      masks_after = after-left a.givens.now a.masks.now (pointing (a.block - 18) (a.digit - 1) (line_in a.line)) (sym c.is_pointing.ensures ∙ c.if-is_pointing.false);
      value = c.if-is_pointing.false ∙ told_none a.masks.now;
    }
