use mathlib.Core.Bool.{cond}
use mathlib.Core.Path.{sym, ◌∙◌}
use Prim.Native.Nat.{ℕ, ◌+◌, ◌<◌, ◌≤◌}
use native.Mathlib.Omega.{arith}
use Rattle.grid.proofs.Lists.{turn-done, turns-over}
use Rattle.steps.proofs.Masks.{under-refl}
use Rattle.steps.proofs.StepLogs.{log-idle, log-done, log-over}
use Rattle.locked.specs.code.Locked.{unit_instances, locked_unit}
use Rattle.locked.proofs.LockedTurns.{unit-each}
use Rattle.locked.proofs.LockedDue.{unit-under, none-due}
use Rattle.locked.proofs.RestDue.{outs-less, now-skips, first-skips}
use Rattle.locked.proofs.locked_lanes.Goals.{else-due-ne0, then-due-ne0}
use Rattle.locked.proofs.locked_lanes.Goals as goal

pub returns-then-end-start : goal.returns-then-end-start
returns-then-end-start c =
    let a = c.args in
    let g = a.givens.now.cells in
    let s = c.first_due-start.result in
    let end : ℕ = cond a.boxes 27 18 in
    let over : end ≤ s = omega (arith, c.end_of-end.ensures, c.if-end-start.true) in
    let left = first-skips g a.laid.now.masks a.log.now a.givens.now.in_lanes a.laid.now.in_lanes c.put_rests.ensures c.first_due-start.ensures in record {
      masks_after = turns-over (locked_unit g) end s over left.2;
      log_after = log-over g unit_instances end s a.laid.now.masks a.log.now over left.3;
    }

pub loop-unit-init : goal.loop-unit-init
loop-unit-init c =
    let a = c.args in
    let w = first-skips a.givens.now.cells a.laid.now.masks a.log.now a.givens.now.in_lanes a.laid.now.in_lanes c.put_rests.ensures c.first_due-start.ensures in
    (w.0, w.2, w.1, w.3)

pub locked_unit-requires : goal.locked_unit-requires
locked_unit-requires c =
    let l = c.loop-unit in
    let now = now-skips c.args.givens.now.cells l.masks l.unit l.invariant.0 (omega (arith, c.end_of-end.ensures)) l.invariant.2 c.all_masks-nine.ensures c.due_now-due.ensures.rests_after c.due_now-due.ensures.value in
    (now.0, c.all_masks-nine.ensures, now.2)

pub loop-unit-preserved : goal.loop-unit-preserved
loop-unit-preserved c =
    let l = c.loop-unit in
    let a = c.args in
    let g = a.givens.now.cells in
    let turn = locked_unit g in
    let end : ℕ = cond a.boxes 27 18 in
    let next : cond a.boxes 18 0 ≤ l.unit + 1 = omega (arith, l.invariant.0) in
    let within : l.unit < end = omega (arith, c.end_of-end.ensures) in
    let now = now-skips g l.masks l.unit l.invariant.0 within l.invariant.2 c.all_masks-nine.ensures c.due_now-due.ensures.rests_after c.due_now-due.ensures.value in
    let same = unit-each g l.unit now.0 l.masks in
    elim c.if-due-ne0.branch [
      | then-due-ne0 w ↦
          let done = w.masks-is ∙ w.locked_unit.ensures.masks_after in (
            next,
            turn-done turn end l.unit within done l.invariant.1,
            outs-less done (unit-under g l.unit l.masks) now.1,
            log-done g unit_instances end l.unit l.masks l.log within (done ∙ sym same) (w.log-is ∙ w.locked_unit.ensures.log_after) l.invariant.3,
          )
      | else-due-ne0 w ↦
          let idle = none-due g l.masks l.unit now.2 w.if-due-ne0.false in (
            next,
            turn-done turn end l.unit within (w.masks-is ∙ sym idle) l.invariant.1,
            outs-less w.masks-is (under-refl l.masks) now.1,
            log-done g unit_instances end l.unit l.masks l.log within (w.masks-is ∙ sym (same ∙ idle)) (w.log-is ∙ sym (log-idle g (unit_instances l.unit) l.masks l.log (same ∙ idle))) l.invariant.3,
          )
    ]

pub returns : goal.returns
returns c =
    let l = c.loop-unit in
    let a = c.args in
    let end : ℕ = cond a.boxes 27 18 in
    let over : end ≤ l.unit = omega (arith, c.end_of-end.ensures, c.loop-unit-test.false) in record {
      masks_after = turns-over (locked_unit a.givens.now.cells) end l.unit over l.invariant.1;
      log_after = log-over a.givens.now.cells unit_instances end l.unit l.masks l.log over l.invariant.3;
    }
