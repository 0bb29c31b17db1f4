-- `pair_cross::crosses::cross_lanes` meets its contract. Assumes nothing.
use mathlib.Core.Path.{refl, sym, ap, ap₂, ◌∙◌}
use mathlib.Core.Logic.{inl}
use mathlib.Core.List.{List}
use Rattle.steps.specs.Instances.{Instance}
use Rattle.steps.specs.code.Logs.{log_after}
use Rattle.steps.proofs.StepLogs.{log-append}
use Rattle.pair_cross.specs.code.Twos.{cross_lines, cross_instances}
use Rattle.pair_cross.proofs.FrameInstances.{cross-each}
use Rattle.pair_cross.proofs.FramePasses.{cross-list, cross-pass}
use Rattle.pair_cross.proofs.crosses.cross_lanes.Goals as goal

pub returns : goal.returns
returns c =
    let a = c.args in
    let g = a.givens.now.cells in
    let m = a.laid.now.masks in
    let rows = c.cross_half.ensures in
    let columns = c.cross_half-2.ensures in record {
      masks_after = columns.masks_after ∙ ap (cross_lines g 9) rows.masks_after ∙ sym (cross-pass g m);
      log_after = columns.log_after ∙ ap₂ (log_after g (cross_instances 9)) (rows.masks_after ∙ sym (cross-each g 0 (inl refl) m)) rows.log_after ∙ sym (log-append g (cross_instances 0) (cross_instances 9) m a.log.now)
          ∙ sym (ap (λ (xs : List Instance). log_after g xs m a.log.now) cross-list);
    }
