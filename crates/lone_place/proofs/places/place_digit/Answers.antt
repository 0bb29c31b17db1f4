use mathlib.Core.Path.{ap, ◌∙◌}
use mathlib.Core.List.{[], ◌∷◌}
use Prim.Native.Nat.{ℕ, ◌<◌}
use native.Mathlib.Omega.{arith}
use Rattle.candidates.specs.Masks.{minus, count, single, lowest}
use Rattle.candidates.proofs.Counts.{count-tail}
use Rattle.candidates.proofs.FewDigits.{lowest-in}
use Rattle.steps.specs.Instances as named
use Rattle.steps.specs.Passes.{instance_taken}
use Rattle.steps.specs.code.Logs.{log_after}
use Rattle.cells.specs.code.Places.{held_places}
use Rattle.cells.proofs.HeldPlaces.{held_small}
use Rattle.cells.proofs.Rising.{lowest-place}
use Rattle.lone_place.specs.code.Due.{turns_of}
use Rattle.lone_place.proofs.PlaceSets.{turning-start, turning-on, turning-end}
use Rattle.lone_place.proofs.places.place_digit.Goals as goal

pub turns_of-left-requires : goal.turns_of-left-requires
turns_of-left-requires c =
    let a = c.args in
    omega (arith, c.held_in.ensures, held_small a.laid.now.masks a.unit a.digit)

pub loop-left-init : goal.loop-left-init
loop-left-init c =
    let a = c.args in
    turning-start a.givens.now a.unit a.digit c.requires.0 c.requires.1 a.laid.now.masks a.log.now (c.turns_of-left.ensures ∙ ap turns_of c.held_in.ensures)

pub place_at-requires : goal.place_at-requires
place_at-requires c =
    let l = c.loop-left in
    let x = l.left in
    let some : 0 < x = omega arith in
    let low = l.invariant.small in
    let e = c.lowest_digit.ensures in (
      c.requires.0,
      c.requires.1,
      omega (arith, e, lowest-place x some low),
      ap (λ (i : ℕ). minus (held_places l.laid.masks c.args.unit c.args.digit) (single i)) e ∙ l.invariant.passing (lowest x) (lowest-in x some (omega arith)),
    )

pub loop-left-smaller : goal.loop-left-smaller
loop-left-smaller c =
    let l = c.loop-left in
    omega (arith, ap count c.lose_lowest-left.ensures, count-tail l.left (omega arith) (omega (arith, l.invariant.small)))

pub loop-left-preserved : goal.loop-left-preserved
loop-left-preserved c =
    let l = c.loop-left in
    let a = c.args in
    let g = a.givens.now in
    let e = c.lowest_digit.ensures in
    turning-on g a.unit a.digit c.requires.0 c.requires.1 l.invariant (omega arith) (c.place_at.ensures.masks_after ∙ ap (λ (i : ℕ). instance_taken g (named.place a.unit a.digit i) l.laid.masks) e)
    (c.place_at.ensures.log_after ∙ ap (λ (i : ℕ). log_after g (named.place a.unit a.digit i ∷ []) l.laid.masks l.log) e) c.lose_lowest-left.ensures

pub returns : goal.returns
returns c =
    let w = turning-end c.args.givens.now c.args.unit c.args.digit c.requires.0 c.requires.1 c.loop-left.invariant (omega (arith, c.loop-left-test.false)) in record {
      masks_after = w.0;
      log_after = w.1;
    }
