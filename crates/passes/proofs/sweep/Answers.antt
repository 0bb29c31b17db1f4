use mathlib.Core.Path.{◌≡◌, refl, sym, ap, ◌∙◌}
use mathlib.Core.Logic.{inl, inr}
use mathlib.Core.List.{List}
use Prim.Native.Nat.{ℕ, ◌+◌, ◌-◌, ◌≤◌, ◌<◌}
use native.Mathlib.Omega.{arith}
use Rattle.grid.proofs.Lists.{turn-done, turns-over}
use Rattle.steps.specs.Boards.{total}
use Rattle.steps.specs.Instances.{Instance}
use Rattle.steps.specs.Loops.{for, range}
use Rattle.steps.specs.Passes.{pass}
use Rattle.steps.specs.code.Logs.{log_after}
use Rattle.steps.proofs.StepLogs.{log-done, log-over}
use Rattle.passes.specs.code.Tallies.{tallied, Tally}
use Rattle.passes.specs.code.Rounds.{nth_kind}
use Rattle.passes.proofs.Finished.{over-settled}
use Rattle.passes.proofs.Rounds.{pass_instances, sweep-blocks, Going, going_start, going-idle, going-changed, swept-early, swept-over, left-silent, swept-end}
use Rattle.passes.proofs.Tallies.{tally_turn, pass-fewer, pass_same, sweep-tally, swept-tally, left-uncounted, tally-turn}
use Rattle.passes.proofs.sweep.Goals as goal
use Rattle.passes.proofs.sweep.Goals.{then-left-tally, else-left-tally+else-is_over}

-- a pass of the loop, in the log
noting-on : (g : List ℕ) (nth : ℕ) (m l : List ℕ) {m₁ l₁ whole : List ℕ} → nth < 6 → m₁ ≡ pass g (nth_kind nth) m → l₁ ≡ log_after g (pass_instances g nth) m l
    → log_after g (for (range (6 - nth) nth) (pass_instances g)) m l ≡ whole → log_after g (for (range (6 - (nth + 1)) (nth + 1)) (pass_instances g)) m₁ l₁ ≡ whole
unfolding pass
noting-on g nth m l within left noted whole = log-done g (pass_instances g) 6 nth m l within left noted whole

pub loop-nth-init : goal.loop-nth-init
loop-nth-init c =
    let a = c.args in
    let g = a.givens.now.cells in
    let noted = ap (λ (xs : List Instance). log_after g xs a.laid.now.masks a.log.now) (sweep-blocks g) in
    (going_start g a.laid.now.masks a.idle c.requires.0, noted, c.requires.2, sweep-tally g c.requires.2)

pub returns-then-still-eq6 : goal.returns-then-still-eq6
returns-then-still-eq6 c =
    let a = c.args in
    let g = a.givens.now.cells in
    let w = c.loop-nth.nth in
    let inv = c.loop-nth.invariant in
    let swept = swept-early g (omega arith) inv.0 c.requires.1 c.if-still-eq6.true in
    let noted = sym (left-silent g (omega arith) inv.0 swept c.loop-nth.log) ∙ inv.1 in
    let counted = sym (left-uncounted g inv.2 (range (6 - w) w) (inv.0.rest ∙ sym swept.swept)) ∙ inv.3 in record {
      swept = swept;
      log_after = noted;
      tally = inv.2;
      tally_after = swept-tally g a.laid.now.masks a.tally.now counted;
    }

pub tally_pass-requires : goal.tally_pass-requires
tally_pass-requires c =
    let l = c.loop-nth in
    let inv = l.invariant in
    let a = c.args in
    let g = a.givens.now.cells in
    let done = c.nth_pass.ensures in
    let t = c.total-left.ensures in
    let within : l.nth < 6 = omega arith in
    (within, omega (arith, t, ap total done.masks_after, pass-fewer g l.nth l.laid.masks, inv.2.left), inv.2.few)

pub loop-nth-preserved : goal.loop-nth-preserved
loop-nth-preserved c =
    let l = c.loop-nth in
    let inv = l.invariant in
    let a = c.args in
    let g = a.givens.now.cells in
    let done = c.nth_pass.ensures in
    let t = c.total-left.ensures in
    let within : l.nth < 6 = omega arith in
    let below : l.still < 6 = omega (arith, inv.0.few, c.if-still-eq6.false) in
    let m = c.nth_pass.new.laid.masks in
    let noting = noting-on g l.nth l.laid.masks l.log within done.masks_after done.log_after inv.1 in
    let w : (Tally m c.if-left-tally.tally × ◌≡◌ {A = List ℕ × List ℕ} (m, c.if-left-tally.tally) (tally_turn g l.nth (l.laid.masks, l.tally))) × Going g a.laid.now.masks a.idle (l.nth + 1) c.if-left-tally.still m = (
    elim c.if-left-tally.branch [
      | then-left-tally x ↦
          let same = pass_same g l.nth l.laid.masks done.masks_after (sym t ∙ x.if-left-tally.true ∙ inv.2.left) in
          (tally-turn g inv.2 l.nth within done.masks_after (inr (same, x.tally-is)), rw x.still-is (going-idle g within below inv.0 done.masks_after same))
      | else-left-tally+else-is_over x ↦
          let other = λ (q : m ≡ l.laid.masks). x.if-left-tally.false (t ∙ ap total q ∙ sym inv.2.left) in
          (tally-turn g inv.2 l.nth within done.masks_after (inl (x.tally-is ∙ x.tally_pass.ensures ∙ ap (λ (n : ℕ). tallied l.nth n l.tally) t)), rw x.still-is (going-changed g within below inv.0 done.masks_after other))
    ]
    ) in
    (w.1, noting, w.0.0, turn-done (tally_turn g) 6 l.nth within w.0.1 inv.3)

pub returns-then-is_over : goal.returns-then-is_over
returns-then-is_over c =
    let l = c.loop-nth in
    let inv = l.invariant in
    let a = c.args in
    let g = a.givens.now.cells in
    let done = c.nth_pass.ensures in
    let t = c.total-left.ensures in
    let within : l.nth < 6 = omega arith in
    let below : l.still < 6 = omega (arith, inv.0.few, c.if-still-eq6.false) in
    let noting = noting-on g l.nth l.laid.masks l.log within done.masks_after done.log_after inv.1 in
    let next : l.nth + 1 ≤ 6 = omega arith in
    let tally = tally-turn g inv.2 l.nth within done.masks_after (inl (c.tally_pass.ensures ∙ ap (λ (n : ℕ). tallied l.nth n l.tally) t)) in
    let going = going-changed g within below inv.0 done.masks_after (λ q. c.if-left-tally.false (t ∙ ap total q ∙ sym inv.2.left)) in
    let settled = over-settled g c.nth_pass.new.laid.masks _ c.nth_pass.new.laid.in_lanes (sym c.is_over.ensures ∙ c.if-is_over.true) in
    let swept = swept-over g next going settled refl (omega arith) in
    let counted = sym (left-uncounted g tally.0 (range (6 - (l.nth + 1)) (l.nth + 1)) (going.rest ∙ sym swept.swept)) ∙ turn-done (tally_turn g) 6 l.nth within tally.1 inv.3 in record {
      swept = swept;
      log_after = sym (left-silent g next going swept _) ∙ noting;
      tally = tally.0;
      tally_after = swept-tally g a.laid.now.masks a.tally.now counted;
    }

pub returns : goal.returns
returns c =
    let a = c.args in
    let g = a.givens.now.cells in
    let w = c.loop-nth.nth in
    let inv = c.loop-nth.invariant in
    let over = c.loop-nth-test.false in
    let noted = log-over g (pass_instances g) 6 w c.loop-nth.laid.masks c.loop-nth.log over inv.1 in record {
      swept = swept-end g (omega arith) inv.0 over;
      log_after = noted;
      tally = inv.2;
      tally_after = swept-tally g a.laid.now.masks a.tally.now (turns-over (tally_turn g) 6 w over inv.3);
    }
