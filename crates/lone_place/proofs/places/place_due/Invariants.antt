-- `lone_place::places::place_due` meets its contract. The invariant: the units that are left still make the whole and its log, and stand as they stood. Assumes nothing.
use mathlib.Core.Path.{◌≡◌}
use mathlib.Core.List.{List}
use Prim.Native.Nat.{ℕ, ◌+◌, ◌*◌, ◌-◌}
use Rattle.steps.specs.Instances.{Instance}
use Rattle.steps.specs.Loops.{for, range}
use Rattle.steps.specs.code.Logs.{log_after}
use Rattle.lanes.specs.code.Lanes.{SameOn}
use Rattle.lanes.proofs.Turns.{Going}
use Rattle.lone_place.specs.code.Turns.{unit_places, family_places}
use Rattle.lone_place.specs.code.Due.{place_turn_of}
use Rattle.lone_place.proofs.places.place_due.Given as goal

abbrev pub block : ℕ → ℕ → List Instance
block f k = unit_places (9 * f + k)

abbrev pub invariant-loop-nth : goal.invariant-loop-nth
invariant-loop-nth l =
    Going (λ k. SameOn (9 * l.family + k)) (place_turn_of l.givens l.family) l.initial.laid.masks l.laid.masks l.nth × (log_after l.givens (for (range (9 - l.nth) l.nth) (block l.family)) l.laid.masks l.log ≡ log_after l.givens (family_places l.family) l.initial.laid.masks l.initial.log)
