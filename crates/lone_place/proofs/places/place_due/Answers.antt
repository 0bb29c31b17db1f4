use mathlib.Core.Path.{refl, sym, ap, ◌∙◌}
use Prim.Native.Nat.{◌+◌, ◌*◌}
use native.Mathlib.Omega.{arith}
use Rattle.steps.proofs.StepLogs.{log-idle, log-done, log-over}
use Rattle.lanes.proofs.Turns.{going_start, going_on, going-past, going_end}
use Rattle.lone_place.specs.code.Turns.{unit_places, family_places}
use Rattle.lone_place.specs.code.Due.{place_family}
use Rattle.lone_place.proofs.Blocks.{place-unit}
use Rattle.lone_place.proofs.PlaceLanes.{place-parted, spares-skips}
use Rattle.lone_place.proofs.places.place_due.Goals.{else-due-nth-ne0, then-due-nth-ne0}
use Rattle.lone_place.proofs.places.place_due.Invariants.{block}
use Rattle.lone_place.proofs.places.place_due.Goals as goal

pub loop-nth-init : goal.loop-nth-init
unfolding family_places
loop-nth-init c = (going_start (place-parted c.args.givens.now c.args.family c.requires.0) c.args.laid.now.masks, refl)

pub loop-nth-preserved : goal.loop-nth-preserved
loop-nth-preserved c =
    let l = c.loop-nth in
    let a = c.args in
    let g = a.givens.now in
    let u = 9 * a.family + l.nth in
    let parts = place-parted g a.family c.requires.0 in
    let unit = place-unit g u l.laid.masks in
    elim c.if-due-nth-ne0.branch [
      | then-due-nth-ne0 w ↦
          let e = ap (λ x. x.masks) w.laid-is ∙ w.place_unit.ensures.masks_after in (
            going_on parts l.invariant.0 (omega arith) e,
            log-done g (block a.family) 9 l.nth l.laid.masks l.log (omega arith) (e ∙ unit) (w.log-is ∙ w.place_unit.ensures.log_after) l.invariant.1,
          )
      | else-due-nth-ne0 w ↦
          let same = ap (λ x. x.masks) w.laid-is in
          let idle = (spares-skips c.requires.1).idle l.nth (omega arith) w.if-due-nth-ne0.false l.laid.masks (l.invariant.0.same l.nth (omega arith) (omega arith)) in (
            going-past parts l.invariant.0 (omega arith) same idle,
            log-done g (block a.family) 9 l.nth l.laid.masks l.log (omega arith) (same ∙ sym idle ∙ unit) (w.log-is ∙ sym (log-idle g (unit_places u) l.laid.masks l.log (sym unit ∙ idle))) l.invariant.1,
          )
    ]

pub returns : goal.returns
unfolding place_family
returns c =
    let a = c.args in
    let l = c.loop-nth in record {
      masks_after = going_end (place-parted a.givens.now a.family c.requires.0) l.invariant.0 c.loop-nth-test.false;
      log_after = log-over a.givens.now (block a.family) 9 l.nth l.laid.masks l.log c.loop-nth-test.false l.invariant.1;
    }
