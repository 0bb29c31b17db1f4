-- `lone_place::places::place_lanes` meets its contract. The invariant: the families that are left still make the whole and its log. Assumes nothing.
use mathlib.Core.Path.{◌≡◌}
use Prim.Native.Nat.{◌-◌, ◌≤◌}
use Rattle.steps.specs.Loops.{each, for, range}
use Rattle.steps.specs.Passes.{instances, pass, Place}
use Rattle.steps.specs.code.Logs.{log_after}
use Rattle.lone_place.specs.code.Turns.{family_places}
use Rattle.lone_place.specs.code.Due.{place_family}
use Rattle.lone_place.proofs.places.place_lanes.Given as goal

abbrev pub invariant-loop-family : goal.invariant-loop-family
invariant-loop-family l =
    (l.family ≤ 3) × (each (place_family l.givens.cells) (range (3 - l.family) l.family) l.laid.masks ≡ pass l.givens.cells Place l.initial.laid.masks)
    × (log_after l.givens.cells (for (range (3 - l.family) l.family) family_places) l.laid.masks l.log ≡ log_after l.givens.cells (instances Place) l.initial.laid.masks l.initial.log)
