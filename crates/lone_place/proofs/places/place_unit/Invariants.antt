-- `lone_place::places::place_unit` meets its contract. The invariant: the digits that are left still make the whole and its log. Assumes nothing.
use mathlib.Core.Path.{◌≡◌}
use Prim.Native.Nat.{◌-◌}
use Rattle.steps.specs.Loops.{each, for, range}
use Rattle.steps.specs.code.Logs.{log_after}
use Rattle.lone_place.specs.code.Turns.{place_digit, place_unit, digit_places, unit_places}
use Rattle.lone_place.proofs.places.place_unit.Given as goal

abbrev pub invariant-loop-digit : goal.invariant-loop-digit
invariant-loop-digit l =
    (each (place_digit l.givens l.unit) (range (9 - l.digit) l.digit) l.laid.masks ≡ place_unit l.givens l.unit l.initial.laid.masks) × (log_after l.givens (for (range (9 - l.digit) l.digit) (digit_places l.unit)) l.laid.masks l.log ≡ log_after l.givens (unit_places l.unit) l.initial.laid.masks l.initial.log)

abbrev pub decreases-loop-digit : goal.decreases-loop-digit
decreases-loop-digit l = 9 - l.digit
