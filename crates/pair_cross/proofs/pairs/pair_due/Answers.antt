use mathlib.Core.Path.{refl, sym, ◌∙◌}
use Prim.Native.Nat.{◌+◌, ◌*◌}
use native.Mathlib.Omega.{arith}
use Rattle.steps.proofs.StepLogs.{log-idle, log-done, log-over}
use Rattle.lanes.proofs.Turns.{going_start, going_on, going-past, going_end}
use Rattle.pair_cross.specs.code.Lively.{pair_family, family_instances}
use Rattle.pair_cross.specs.declared.twos.Frame.TheVariants.{Unit}
use Rattle.pair_cross.proofs.FrameInstances.{frame-each}
use Rattle.pair_cross.proofs.PairLanes.{pair-lines, pair-parted}
use Rattle.pair_cross.proofs.pairs.pair_due.Goals.{else-due-nth-ne0, then-due-nth-ne0}
use Rattle.pair_cross.proofs.pairs.pair_due.Invariants.{block}
use Rattle.pair_cross.proofs.pairs.pair_due.Goals as goal

pub loop-nth-init : goal.loop-nth-init
unfolding family_instances
loop-nth-init c = (going_start (pair-parted c.args.givens.now.cells c.args.family c.requires.0) c.args.laid.now.masks, refl)

pub two_frame-requires : goal.two_frame-requires
two_frame-requires c =
    let l = c.loop-nth in
    let w = pair-lines c.args.givens.now.cells c.args.laid.now.masks c.args.family l.nth c.requires.0 (omega arith) c.args.givens.now.in_lanes c.args.laid.now.in_lanes l.masks (l.invariant.0.same l.nth (omega arith) (omega arith)) c.lane_masks.ensures c.lane_masks-then-due-nth-ne0.ensures in
    (omega arith, w.0, w.1)

pub loop-nth-preserved : goal.loop-nth-preserved
loop-nth-preserved c =
    let l = c.loop-nth in
    let a = c.args in
    let g = a.givens.now.cells in
    let parts = pair-parted g a.family c.requires.0 in
    let taken = frame-each g (Unit (9 * a.family + l.nth)) (omega arith) l.masks in
    elim c.if-due-nth-ne0.branch [
      | then-due-nth-ne0 w ↦ (
        going_on parts l.invariant.0 (omega arith) (w.masks-is ∙ w.two_frame.ensures.masks_after),
        log-done g (block a.family) 9 l.nth l.masks l.log (omega arith) (w.masks-is ∙ w.two_frame.ensures.masks_after ∙ sym taken) (w.log-is ∙ w.two_frame.ensures.log_after) l.invariant.1,
      )
      | else-due-nth-ne0 w ↦
          let idle = c.requires.1.idle l.nth (omega arith) w.if-due-nth-ne0.false l.masks (l.invariant.0.same l.nth (omega arith) (omega arith)) in (
            going-past parts l.invariant.0 (omega arith) w.masks-is idle,
            log-done g (block a.family) 9 l.nth l.masks l.log (omega arith) (w.masks-is ∙ sym (taken ∙ idle)) (w.log-is ∙ sym (log-idle g (block a.family l.nth) l.masks l.log (taken ∙ idle))) l.invariant.1,
          )
    ]

pub returns : goal.returns
unfolding pair_family
returns c =
    let l = c.loop-nth in
    let a = c.args in
    let g = a.givens.now.cells in record {
      masks_after = going_end (pair-parted g a.family c.requires.0) l.invariant.0 c.loop-nth-test.false;
      log_after = log-over g (block a.family) 9 l.nth l.masks l.log c.loop-nth-test.false l.invariant.1;
    }
