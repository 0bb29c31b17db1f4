use mathlib.Core.Path.{◌≡◌, sym, ap, ◌∙◌}
use mathlib.Core.List.{List}
use Prim.Native.Nat.{ℕ, ◌+◌, ◌-◌, ◌<◌}
use native.Mathlib.Omega.{arith}
use Rattle.candidates.specs.Masks.{has}
use Rattle.candidates.proofs.Counts.{first-ge}
use Rattle.grid.proofs.Lists.{turns-over}
use Rattle.steps.proofs.StepLogs.{log-over}
use Rattle.lanes.specs.code.Lanes.{laid, lane_masks, lane_of}
use Rattle.lanes.proofs.LaneUnits.{unit_lane}
use Rattle.lone_place.specs.code.Turns.{place_digit, place_unit, digit_places, unit_places}
use Rattle.lone_place.specs.code.Due.{due_of, Spares}
use Rattle.lone_place.proofs.PlaceDue.{nine-not-due}
use Rattle.lone_place.proofs.PlaceNext.{next-due, turn-next}
use Rattle.lone_place.proofs.places.place_unit.Goals as goal

-- what is not due loses nothing
spared : (g : List ℕ) (u : ℕ) → u < 27 → {due : ℕ} {p n : List ℕ} → due ≡ due_of (lane_masks p (lane_of u)) → p ≡ laid n → Spares g u due n
spared g u h {due} {p} {n} e b = record {
  idle = λ d k t. nine-not-due g n u d h k
      (ap (λ (x : List ℕ). has (due_of x) d) (sym (unit_lane n u h) ∙ ap (λ (x : List ℕ). lane_masks x (lane_of u)) (sym b)) ∙ sym (ap (λ (x : ℕ). has x d) e) ∙ t);
}

pub loop-digit-init : goal.loop-digit-init
unfolding place_unit unit_places
loop-digit-init c =
    let a = c.args in
    let w = next-due a.givens.now a.unit a.first a.laid.now.masks a.log.now c.requires.1 0 (omega arith) c.first_digit-digit.ensures in
    (w.0, w.1)

pub loop-digit-smaller : goal.loop-digit-smaller
loop-digit-smaller c =
    let l = c.loop-digit in
    omega (arith, c.first_digit-digit-in-loop-digit.ensures, first-ge (9 - (l.digit + 1)) (l.digit + 1) c.due_digits.result)

pub loop-digit-preserved : goal.loop-digit-preserved
loop-digit-preserved c =
    let l = c.loop-digit in
    let a = c.args in
    let g = a.givens.now in
    let made = c.place_digit.ensures in
    let w =
    turn-next g a.unit l.digit l.laid.masks l.log (omega arith) made.masks_after made.log_after (spared g a.unit c.requires.0 c.due_digits.ensures c.place_digit.new.laid.in_lanes) c.first_digit-digit-in-loop-digit.ensures
    l.invariant.0 l.invariant.1 in
    (w.0, w.1)

pub returns : goal.returns
returns c =
    let l = c.loop-digit in
    let a = c.args in record {
      masks_after = turns-over (place_digit a.givens.now a.unit) 9 l.digit c.loop-digit-test.false l.invariant.0;
      log_after = log-over a.givens.now (digit_places a.unit) 9 l.digit l.laid.masks l.log c.loop-digit-test.false l.invariant.1;
    }
