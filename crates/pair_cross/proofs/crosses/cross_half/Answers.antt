-- `pair_cross::crosses::cross_half` meets its contract. Assumes nothing.
use mathlib.Core.Path.{sym, ◌∙◌}
use Prim.Native.Nat.{◌*◌}
use Rattle.steps.proofs.StepLogs.{log-idle}
use Rattle.lanes.proofs.Turns.{skips-idle}
use Rattle.pair_cross.specs.code.Twos.{cross_lines, cross_instances}
use Rattle.pair_cross.proofs.CrossLanes.{first-line, cross-skipped, cross-parted}
use Rattle.pair_cross.proofs.FrameInstances.{cross-each}
use Rattle.pair_cross.proofs.crosses.cross_half.Goals as goal

pub returns-then-join_sets-eq0 : goal.returns-then-join_sets-eq0
unfolding cross_lines
returns-then-join_sets-eq0 c =
    let a = c.args in
    let g = a.givens.now.cells in
    let m = a.laid.now.masks in
    let skips =
    cross-skipped g m a.half c.requires a.givens.now.in_lanes a.laid.now.in_lanes c.loose.ensures c.join_sets-held.ensures c.digit_lanes-digits.ensures c.places_of_digits-free.ensures c.lively_lanes-due.ensures in
    let idle = skips-idle (cross-parted g (9 * a.half)) skips (sym c.join_sets.ensures ∙ c.if-join_sets-eq0.true) in record {
      masks_after = sym idle;
      log_after = sym (log-idle g (cross_instances (9 * a.half)) m a.log.now (cross-each g (9 * a.half) (first-line a.half c.requires) m ∙ idle));
    }

pub cross_due-requires : goal.cross_due-requires
cross_due-requires c =
    let a = c.args in (
      c.requires,
      c.digit_lanes-digits.ensures,
      cross-skipped a.givens.now.cells a.laid.now.masks a.half c.requires a.givens.now.in_lanes a.laid.now.in_lanes c.loose.ensures c.join_sets-held.ensures c.digit_lanes-digits.ensures c.places_of_digits-free.ensures c.lively_lanes-due.ensures,
    )
