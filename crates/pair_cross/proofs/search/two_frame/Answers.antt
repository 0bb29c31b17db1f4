use mathlib.Core.Path.{refl, sym, ◌∙◌}
use native.Mathlib.Omega.{arith}
use Rattle.grid.proofs.Lists.{turn-done, turns-over}
use Rattle.steps.specs.Loops.{above}
use Rattle.steps.proofs.Loops.{in-above, each-idle}
use Rattle.steps.proofs.StepLogs.{log-idle, log-done, log-over}
use Rattle.pair_cross.specs.code.Twos.{lines_taken, line_instances, frame_instances}
use Rattle.pair_cross.proofs.FrameInstances.{line-each}
use Rattle.pair_cross.proofs.LinesLeft.{frame-lines, seen_same, lead-seen}
use Rattle.pair_cross.proofs.search.two_frame.Goals.{else-leads, then-leads}
use Rattle.pair_cross.proofs.search.two_frame.Invariants.{turn}
use Rattle.pair_cross.proofs.search.two_frame.Goals as goal

pub loop-i-init : goal.loop-i-init
unfolding frame_instances
loop-i-init c =
    let a = c.args in
    (sym (frame-lines a.givens.now a.frame a.masks.now), record { framed = c.requires.0; doors = c.requires.1; held = c.requires.2; heat = c.heat_of-heat.ensures }, refl)

pub loop-i-preserved : goal.loop-i-preserved
loop-i-preserved c =
    let l = c.loop-i in
    let a = c.args in
    let g = a.givens.now in
    let F = a.frame in
    let taken = line-each g F l.invariant.1.framed l.i l.masks in
    elim c.if-leads.branch [
      | then-leads w ↦ (
        turn-done (turn g F) 9 l.i (omega arith) (w.masks-is ∙ w.line_turns-heat.ensures.masks_after) l.invariant.0,
        seen_same w.line_turns-heat.ensures.seen w.masks-is w.held-is w.heat-is,
        log-done g (line_instances F) 9 l.i l.masks l.log (omega arith) (w.masks-is ∙ w.line_turns-heat.ensures.masks_after ∙ sym taken) (w.log-is ∙ w.line_turns-heat.ensures.log_after) l.invariant.2,
      )
      | else-leads w ↦
          let idle = each-idle (lines_taken g F l.i) (above l.i 9) l.masks (λ j k. let r = in-above l.i 9 j k in lead-seen l.invariant.1 l.i j r.0 r.1 (sym c.leads.ensures ∙ w.if-leads.false)) in (
            turn-done (turn g F) 9 l.i (omega arith) (w.masks-is ∙ sym idle) l.invariant.0,
            seen_same l.invariant.1 w.masks-is w.held-is w.heat-is,
            log-done g (line_instances F) 9 l.i l.masks l.log (omega arith) (w.masks-is ∙ sym (taken ∙ idle)) (w.log-is ∙ sym (log-idle g (line_instances F l.i) l.masks l.log (taken ∙ idle))) l.invariant.2,
          )
    ]

pub returns : goal.returns
returns c =
    let l = c.loop-i in
    let a = c.args in
    let g = a.givens.now in record {
      masks_after = turns-over (turn g a.frame) 9 l.i c.loop-i-test.false l.invariant.0;
      log_after = log-over g (line_instances a.frame) 9 l.i l.masks l.log c.loop-i-test.false l.invariant.2;
    }
