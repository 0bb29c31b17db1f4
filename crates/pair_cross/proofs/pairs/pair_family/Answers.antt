-- `pair_cross::pairs::pair_family` meets its contract. Assumes nothing.
use mathlib.Core.Path.{sym, ◌∙◌}
use Rattle.steps.proofs.StepLogs.{log-idle}
use Rattle.lanes.proofs.Turns.{skips-idle}
use Rattle.pair_cross.specs.code.Lively.{pair_family, family_instances}
use Rattle.pair_cross.proofs.FrameInstances.{family-each}
use Rattle.pair_cross.proofs.PairLanes.{pair-skipped, pair-parted}
use Rattle.pair_cross.proofs.pairs.pair_family.Goals as goal

pub returns-then-join_sets-eq0 : goal.returns-then-join_sets-eq0
unfolding pair_family
returns-then-join_sets-eq0 c =
    let a = c.args in
    let g = a.givens.now.cells in
    let m = a.laid.now.masks in
    let skips = pair-skipped g m a.family c.requires a.givens.now.in_lanes a.laid.now.in_lanes c.loose-free.ensures c.lively_lanes-due.ensures in
    let idle = skips-idle (pair-parted g a.family c.requires) skips (sym c.join_sets.ensures ∙ c.if-join_sets-eq0.true) in record {
      masks_after = sym idle;
      log_after = sym (log-idle g (family_instances a.family) m a.log.now (family-each g a.family c.requires m ∙ idle));
    }

pub pair_due-requires : goal.pair_due-requires
pair_due-requires c =
    let a = c.args in
    (c.requires, pair-skipped a.givens.now.cells a.laid.now.masks a.family c.requires a.givens.now.in_lanes a.laid.now.in_lanes c.loose-free.ensures c.lively_lanes-due.ensures)
