use mathlib.Core.Path.{refl, sym, ap, ◌∙◌}
use Prim.Native.Nat.{◌<◌}
use native.Mathlib.Omega.{arith}
use Rattle.steps.specs.Difficulty.{added, removed_in, pass_counts}
use Rattle.steps.specs.Passes.{Sweeps}
use Rattle.steps.specs.StepLists.{settling_instances}
use Rattle.steps.specs.code.Logs.{log_after}
use Rattle.steps.proofs.StepLogs.{sweeps_of, log-nothing}
use Rattle.passes.specs.code.Tallies.{tally_with}
use Rattle.passes.proofs.Sweeping.{settle-stops, settle_goes, log-stops, log-goes, counts-stop, counts-go, settle-ends}
use Rattle.passes.proofs.Tallies.{counts-over}
use Rattle.passes.proofs.sweep_on.Goals as goal

pub loop-sweeps-init : goal.loop-sweeps-init
unfolding settling_instances pass_counts
loop-sweeps-init c =
    (omega arith, record { still = λ j a b. absurd (omega arith) }, omega arith, refl, refl, c.requires, refl)

pub returns-then-idle-eq6 : goal.returns-then-idle-eq6
unfolding tally_with
returns-then-idle-eq6 c =
    let g = c.args.givens.now.cells in
    let swept = c.sweep-idle.ensures in
    let s = settle-stops g c.loop-sweeps.sweeps c.loop-sweeps.laid.masks (omega arith) swept.swept c.if-idle-eq6.true in
    let noted = log-stops g c.loop-sweeps.sweeps c.loop-sweeps.laid.masks (omega arith) swept.swept c.loop-sweeps.log swept.log_after c.loop-sweeps.invariant.4 c.if-idle-eq6.true in
    let counted = counts-stop g c.loop-sweeps.sweeps c.loop-sweeps.laid.masks (omega arith) swept.swept c.loop-sweeps.invariant.5 swept.tally_after c.loop-sweeps.invariant.6 c.if-idle-eq6.true in record {
      value = omega (arith, ap (λ (x : Sweeps). x.sweeps) s, c.loop-sweeps.invariant.2);
      masks_after = sym (ap (λ (x : Sweeps). x.left) s) ∙ c.loop-sweeps.invariant.3;
      log_after = noted;
      tally_after = counts-over g swept.tally counted;
    }

pub loop-sweeps-preserved : goal.loop-sweeps-preserved
loop-sweeps-preserved c =
    let g = c.args.givens.now.cells in
    let swept = c.sweep-idle.ensures in
    let below : c.sweep-idle.result < 6 = omega (arith, swept.swept.few, c.if-idle-eq6.false) in
    let s = settle_goes g c.loop-sweeps.sweeps c.loop-sweeps.laid.masks (omega arith) swept.swept below in
    let noted = log-goes g c.loop-sweeps.sweeps c.loop-sweeps.laid.masks (omega arith) swept.swept c.loop-sweeps.log swept.log_after c.loop-sweeps.invariant.4 below in
    let counted = counts-go g c.loop-sweeps.sweeps c.loop-sweeps.laid.masks (omega arith) swept.swept c.loop-sweeps.invariant.5 swept.tally_after c.loop-sweeps.invariant.6 below in
    (below, (swept.swept.goes below).1, omega (arith, ap (λ (x : Sweeps). x.sweeps) s, c.loop-sweeps.invariant.2), sym (ap (λ (x : Sweeps). x.left) s) ∙ c.loop-sweeps.invariant.3, noted, swept.tally, counted)

pub returns : goal.returns
unfolding tally_with
returns c =
    let g = c.args.givens.now.cells in
    let s = settle-ends g c.loop-sweeps.sweeps c.loop-sweeps.laid.masks c.loop-sweeps-test.false in
    let noted = sym (log-nothing g c.loop-sweeps.laid.masks c.loop-sweeps.log) ∙ ap (λ (x : Sweeps). log_after g (sweeps_of g x.sweeps) c.loop-sweeps.laid.masks c.loop-sweeps.log) (sym s) ∙ c.loop-sweeps.invariant.4 in
    let counted = ap (λ (x : Sweeps). added c.loop-sweeps.tally (removed_in g x.sweeps c.loop-sweeps.laid.masks)) (sym s) ∙ c.loop-sweeps.invariant.6 in record {
      value = omega (arith, ap (λ (x : Sweeps). x.sweeps) s, c.loop-sweeps.invariant.2);
      masks_after = sym (ap (λ (x : Sweeps). x.left) s) ∙ c.loop-sweeps.invariant.3;
      log_after = noted;
      tally_after = counts-over g c.loop-sweeps.invariant.5 counted;
    }
