use mathlib.Core.Path.{sym, ap, ◌∙◌}
use mathlib.Core.List.{List}
use native.Mathlib.Omega.{arith}
use Rattle.grid.proofs.Lists.{turn-done, turns-over}
use Rattle.steps.specs.Instances.{Instance}
use Rattle.steps.specs.code.Logs.{log_after}
use Rattle.steps.proofs.StepLogs.{log-done, log-over}
use Rattle.lone_place.specs.code.Turns.{family_places}
use Rattle.lone_place.specs.code.Due.{place_family}
use Rattle.lone_place.proofs.Blocks.{place-family, places-by-families}
use Rattle.lone_place.proofs.PlaceLanes.{place-families}
use Rattle.lone_place.proofs.places.place_lanes.Goals as goal

pub loop-family-init : goal.loop-family-init
loop-family-init c =
    let a = c.args in
    (omega arith, sym (place-families a.givens.now.cells a.laid.now.masks), ap (λ (xs : List Instance). log_after a.givens.now.cells xs a.laid.now.masks a.log.now) (sym places-by-families))

pub loop-family-preserved : goal.loop-family-preserved
loop-family-preserved c =
    let l = c.loop-family in
    let g = c.args.givens.now.cells in
    let e = c.place_family.ensures.masks_after in (
      omega arith,
      turn-done (place_family g) 3 l.family (omega arith) e l.invariant.1,
      log-done g family_places 3 l.family l.laid.masks l.log (omega arith) (e ∙ place-family g l.family l.laid.masks) c.place_family.ensures.log_after l.invariant.2,
    )

pub returns : goal.returns
returns c =
    let l = c.loop-family in
    let g = c.args.givens.now.cells in record {
      masks_after = turns-over (place_family g) 3 l.family c.loop-family-test.false l.invariant.1;
      log_after = log-over g family_places 3 l.family l.laid.masks l.log c.loop-family-test.false l.invariant.2;
    }
