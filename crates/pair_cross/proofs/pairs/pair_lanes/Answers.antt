use mathlib.Core.Path.{sym, ap, ◌∙◌}
use mathlib.Core.List.{List}
use native.Mathlib.Omega.{arith}
use Rattle.grid.proofs.Lists.{turn-done, turns-over}
use Rattle.steps.specs.Instances.{Instance}
use Rattle.steps.specs.code.Logs.{log_after}
use Rattle.steps.proofs.StepLogs.{log-done, log-over}
use Rattle.pair_cross.specs.code.Lively.{pair_family, family_instances}
use Rattle.pair_cross.proofs.FrameInstances.{family-each}
use Rattle.pair_cross.proofs.FramePasses.{family-list}
use Rattle.pair_cross.proofs.PairLanes.{pair-families}
use Rattle.pair_cross.proofs.pairs.pair_lanes.Goals as goal

pub loop-family-init : goal.loop-family-init
loop-family-init c =
    let a = c.args in
    let g = a.givens.now.cells in
    (sym (pair-families g a.laid.now.masks), ap (λ (xs : List Instance). log_after g xs a.laid.now.masks a.log.now) (sym family-list))

pub loop-family-preserved : goal.loop-family-preserved
loop-family-preserved c =
    let l = c.loop-family in
    let g = c.args.givens.now.cells in
    let done = c.pair_family.ensures in (
      turn-done (pair_family g) 3 l.family (omega arith) done.masks_after l.invariant.0,
      log-done g family_instances 3 l.family l.laid.masks l.log (omega arith) (done.masks_after ∙ sym (family-each g l.family (omega arith) l.laid.masks)) done.log_after l.invariant.1,
    )

pub returns : goal.returns
returns c =
    let l = c.loop-family in
    let g = c.args.givens.now.cells in record {
      masks_after = turns-over (pair_family g) 3 l.family c.loop-family-test.false l.invariant.0;
      log_after = log-over g family_instances 3 l.family l.laid.masks l.log c.loop-family-test.false l.invariant.1;
    }
