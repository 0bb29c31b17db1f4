use mathlib.Core.Path.{refl, sym, ◌∙◌}
use native.Mathlib.Omega.{arith}
use Rattle.steps.proofs.StepLogs.{log-idle, log-done, log-over}
use Rattle.lanes.proofs.Turns.{going_start, going_on, going-past, going_end}
use Rattle.locked.specs.code.Locked.{digit_instances, unit_instances, locked_unit}
use Rattle.locked.proofs.LockedTurns.{digit-each}
use Rattle.locked.proofs.LockedDue.{held-still, digits-parted}
use Rattle.locked.proofs.locked_unit.Goals.{else-has_digit, then-has_digit}
use Rattle.locked.proofs.locked_unit.Goals as goal

pub loop-digit-init : goal.loop-digit-init
unfolding unit_instances
loop-digit-init c = (going_start (digits-parted c.args.givens.now c.args.unit) c.args.masks.now, refl)

pub locked_digit-requires : goal.locked_digit-requires
locked_digit-requires c =
    let l = c.loop-digit in (
      c.requires.0,
      omega arith,
      held-still c.args.unit l.digit c.requires.0 c.places_of-held.ensures c.requires.1 (l.invariant.0.same l.digit (omega arith) (omega arith)),
    )

pub loop-digit-preserved : goal.loop-digit-preserved
loop-digit-preserved c =
    let l = c.loop-digit in
    let a = c.args in
    let parts = digits-parted a.givens.now a.unit in
    let g = a.givens.now in
    let same = digit-each g a.unit l.digit c.requires.0 l.masks in
    let go = log-done g (digit_instances a.unit) 9 l.digit l.masks l.log in
    elim c.if-has_digit.branch [
      | then-has_digit w ↦ (going_on parts l.invariant.0 (omega arith) (w.masks-is ∙ w.locked_digit.ensures.masks_after), go (omega arith) (w.masks-is ∙ w.locked_digit.ensures.masks_after ∙ sym same) (w.log-is ∙ w.locked_digit.ensures.log_after) l.invariant.1)
      | else-has_digit w ↦
          let idle = c.requires.2.idle l.digit (omega arith) (sym c.has_digit.ensures ∙ w.if-has_digit.false) l.masks (l.invariant.0.same l.digit (omega arith) (omega arith)) in (
            going-past parts l.invariant.0 (omega arith) w.masks-is idle,
            go (omega arith) (w.masks-is ∙ sym (same ∙ idle)) (w.log-is ∙ sym (log-idle g (digit_instances a.unit l.digit) l.masks l.log (same ∙ idle))) l.invariant.1,
          )
    ]

pub returns : goal.returns
unfolding locked_unit
returns c =
    let l = c.loop-digit in
    let a = c.args in record {
      masks_after = going_end (digits-parted a.givens.now a.unit) l.invariant.0 c.loop-digit-test.false;
      log_after = log-over a.givens.now (digit_instances a.unit) 9 l.digit l.masks l.log c.loop-digit-test.false l.invariant.1;
    }
