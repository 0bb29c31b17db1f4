-- `lone_place::places::place_digit` meets its contract. The invariant: the places that are left still make the whole and its log, and all pass their test. Assumes nothing.
use Rattle.candidates.specs.Masks.{count}
use Rattle.steps.specs.code.Logs.{log_after}
use Rattle.lone_place.specs.code.Turns.{place_digit, digit_places}
use Rattle.lone_place.proofs.PlaceSets.{Turning}
use Rattle.lone_place.proofs.places.place_digit.Given as goal

abbrev pub invariant-loop-left : goal.invariant-loop-left
invariant-loop-left l = Turning l.givens l.unit l.digit l.left l.laid.masks l.log (place_digit l.givens l.unit l.digit l.initial.laid.masks) (log_after l.givens (digit_places l.unit l.digit) l.initial.laid.masks l.initial.log)

abbrev pub decreases-loop-left : goal.decreases-loop-left
decreases-loop-left l = count l.left
