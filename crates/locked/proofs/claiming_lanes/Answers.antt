-- `locked::claiming_lanes` meets its contract. Assumes nothing.
use mathlib.Core.Path.{ap, ◌∙◌}
use mathlib.Core.List.{List}
use Rattle.steps.specs.Instances.{Instance}
use Rattle.steps.specs.code.Logs.{log_after}
use Rattle.locked.specs.code.Locked.{units_of}
use Rattle.locked.proofs.LockedTurns.{claimings-are, claiming-pass}
use Rattle.locked.proofs.claiming_lanes.Goals as goal

pub returns : goal.returns
unfolding units_of
returns c =
    let a = c.args in
    let done = c.locked_lanes.ensures in record {
      masks_after = done.masks_after ∙ claiming-pass a.givens.now.cells a.laid.now.masks;
      log_after = done.log_after ∙ ap (λ (xs : List Instance). log_after a.givens.now.cells xs a.laid.now.masks a.log.now) claimings-are;
    }
