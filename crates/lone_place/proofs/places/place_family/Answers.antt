-- `lone_place::places::place_family` meets its contract. Assumes nothing.
use mathlib.Core.Path.{sym, ◌∙◌}
use Rattle.steps.proofs.StepLogs.{log-idle}
use Rattle.lanes.proofs.Turns.{skips-idle}
use Rattle.lone_place.specs.code.Turns.{family_places}
use Rattle.lone_place.specs.code.Due.{place_family}
use Rattle.lone_place.proofs.Blocks.{place-family}
use Rattle.lone_place.proofs.PlaceLanes.{place-spared, spares-skips, place-parted}
use Rattle.lone_place.proofs.places.place_family.Goals as goal

pub returns-then-join_sets-eq0 : goal.returns-then-join_sets-eq0
unfolding place_family
returns-then-join_sets-eq0 c =
    let a = c.args in
    let spares = place-spared a.givens.now.cells a.laid.now.masks a.family c.requires a.givens.now.in_lanes a.laid.now.in_lanes c.loose-free.ensures c.due_lanes-due.ensures in
    let idle = skips-idle (place-parted a.givens.now.cells a.family c.requires) (spares-skips spares) (sym c.join_sets.ensures ∙ c.if-join_sets-eq0.true) in record {
      masks_after = sym idle;
      log_after = sym (log-idle a.givens.now.cells (family_places a.family) a.laid.now.masks a.log.now (sym (place-family a.givens.now.cells a.family a.laid.now.masks) ∙ idle));
    }

pub place_due-requires : goal.place_due-requires
place_due-requires c =
    let a = c.args in
    (c.requires, place-spared a.givens.now.cells a.laid.now.masks a.family c.requires a.givens.now.in_lanes a.laid.now.in_lanes c.loose-free.ensures c.due_lanes-due.ensures)
