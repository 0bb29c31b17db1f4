use mathlib.Core.Path.{refl, sym, ◌∙◌}
use Prim.Native.Nat.{◌*◌}
use native.Mathlib.Omega.{arith}
use Rattle.steps.proofs.StepLogs.{log-idle, log-done, log-over}
use Rattle.lanes.proofs.Turns.{going_start, going_on, going-past, going_end}
use Rattle.pair_cross.specs.code.Twos.{cross_lines, cross_instances}
use Rattle.pair_cross.specs.declared.twos.Frame.TheVariants.{Lines}
use Rattle.pair_cross.proofs.CrossLanes.{first-line, cross-lines, cross-doors, cross-parted}
use Rattle.pair_cross.proofs.FrameInstances.{frame-each}
use Rattle.pair_cross.proofs.crosses.cross_due.Goals.{else-due-digit-ne0, then-due-digit-ne0}
use Rattle.pair_cross.proofs.crosses.cross_due.Invariants.{block}
use Rattle.pair_cross.proofs.crosses.cross_due.Goals as goal

pub loop-digit-init : goal.loop-digit-init
unfolding cross_instances
loop-digit-init c = let a = c.args in (going_start (cross-parted a.givens.now.cells (9 * a.half)) a.laid.now.masks, refl)

pub two_frame-requires : goal.two_frame-requires
two_frame-requires c =
    let l = c.loop-digit in
    let h = c.loop-digit-test.true in
    let half = c.args.half in (
      (first-line half c.requires.0, h),
      cross-doors c.args.givens.now.cells half l.digit c.requires.0 h c.args.givens.now.in_lanes c.open_places-places.ensures,
      cross-lines half l.digit c.requires.0 h c.args.laid.now.in_lanes c.requires.1 l.masks (l.invariant.0.same l.digit (omega arith) (omega arith)) c.lane_masks.ensures,
    )

pub loop-digit-preserved : goal.loop-digit-preserved
loop-digit-preserved c =
    let l = c.loop-digit in
    let a = c.args in
    let g = a.givens.now.cells in
    let parts = cross-parted g (9 * a.half) in
    let below = l.invariant.0.below in
    let taken = frame-each g (Lines (9 * a.half) l.digit) (first-line a.half c.requires.0, omega arith) l.masks in
    elim c.if-due-digit-ne0.branch [
      | then-due-digit-ne0 w ↦ (
        going_on parts l.invariant.0 (omega arith) (w.masks-is ∙ w.two_frame.ensures.masks_after),
        log-done g (block a.half) 9 l.digit l.masks l.log (omega arith) (w.masks-is ∙ w.two_frame.ensures.masks_after ∙ sym taken) (w.log-is ∙ w.two_frame.ensures.log_after) l.invariant.1,
      )
      | else-due-digit-ne0 w ↦
          let idle = c.requires.2.idle l.digit (omega arith) w.if-due-digit-ne0.false l.masks (l.invariant.0.same l.digit (omega arith) (omega arith)) in (
            going-past parts l.invariant.0 (omega arith) w.masks-is idle,
            log-done g (block a.half) 9 l.digit l.masks l.log (omega arith) (w.masks-is ∙ sym (taken ∙ idle)) (w.log-is ∙ sym (log-idle g (block a.half l.digit) l.masks l.log (taken ∙ idle))) l.invariant.1,
          )
    ]

pub returns : goal.returns
unfolding cross_lines
returns c =
    let l = c.loop-digit in
    let a = c.args in
    let g = a.givens.now.cells in record {
      masks_after = going_end (cross-parted g (9 * a.half)) l.invariant.0 c.loop-digit-test.false;
      log_after = log-over g (block a.half) 9 l.digit l.masks l.log c.loop-digit-test.false l.invariant.1;
    }
