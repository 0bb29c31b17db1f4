use mathlib.Core.Path.{◌≡◌, sym, ap, ◌∙◌}
use mathlib.Core.List.{List}
use Prim.Native.Nat.{ℕ, ◌-◌, ◌<◌}
use native.Mathlib.Omega.{arith}
use Rattle.grid.proofs.Lists.{turn-done, turns-over}
use Rattle.steps.specs.Loops.{each, for, up_to}
use Rattle.steps.specs.code.Logs.{log_after}
use Rattle.steps.proofs.StepLogs.{log-done, log-over}
use Rattle.cells.specs.code.Meets.{meetings, meet_turn, meet_turns}
use Rattle.cells.specs.code.Places.{held_places}
use Rattle.locked.specs.code.Locked.{digit_instances}
use Rattle.locked.proofs.LockedTurns.{keeps, locked-digit, instance-taken}
use Rattle.locked.proofs.locked_digit.Invariants.{block}
use Rattle.locked.proofs.locked_digit.Goals as goal

pub loop-nth-init : goal.loop-nth-init
unfolding meet_turns digit_instances
loop-nth-init c =
    let a = c.args in
    let g = a.givens.now in
    let all : c.meetings-nth-end.result - 0 ≡ meetings a.unit = omega (arith, c.meetings-nth-end.ensures) in (
      c.requires.2,
      ap (λ (n : ℕ). meet_turns g a.unit n a.digit a.held a.masks.now) all
          ∙ ap (λ (x : ℕ). meet_turns g a.unit (meetings a.unit) a.digit x a.masks.now) c.requires.2 ∙ sym (locked-digit g a.unit a.digit c.requires.0 c.requires.1 a.masks.now),
      ap (λ (n : ℕ). log_after g (for (up_to n) (block a.unit a.digit)) a.masks.now a.log.now) all,
    )

pub loop-nth-preserved : goal.loop-nth-preserved
unfolding each
loop-nth-preserved c =
    let l = c.loop-nth in
    let a = c.args in
    let g = a.givens.now in
    let held = a.held in
    let few : l.nth < meetings a.unit = omega (arith, c.meetings-nth-end.ensures) in
    let done = c.locked_at.ensures.masks_after in (
      l.invariant.0 ∙ sym (keeps g a.unit a.digit c.requires.0 c.requires.1 held l.nth l.masks few) ∙ ap (λ (m : List ℕ). held_places m a.unit a.digit) (sym done),
      turn-done (meet_turn g a.unit a.digit held) c.meetings-nth-end.result l.nth (omega arith) done l.invariant.1,
      log-done g (block a.unit a.digit) c.meetings-nth-end.result l.nth l.masks l.log (omega arith)
          (done ∙ sym (instance-taken g a.unit a.digit l.nth c.requires.0 c.requires.1 few l.masks l.invariant.0)) c.locked_at.ensures.log_after l.invariant.2,
    )

pub returns : goal.returns
returns c =
    let l = c.loop-nth in
    let a = c.args in
    let g = a.givens.now in
    let n = c.meetings-nth-end.result in record {
      masks_after = turns-over (meet_turn g a.unit a.digit a.held) n l.nth c.loop-nth-test.false l.invariant.1;
      log_after = log-over g (block a.unit a.digit) n l.nth l.masks l.log c.loop-nth-test.false l.invariant.2;
    }
