use mathlib.Core.Path.{sym, ◌∙◌}
use native.Mathlib.Omega.{arith}
use Rattle.grid.proofs.Lists.{turn-done, turns-over}
use Rattle.steps.proofs.StepLogs.{log-idle, log-done, log-over}
use Rattle.pair_cross.specs.code.Twos.{lines_taken, lines_instances}
use Rattle.pair_cross.proofs.FrameInstances.{lines-each}
use Rattle.pair_cross.proofs.LinesLeft.{seen_same, cold-seen}
use Rattle.pair_cross.proofs.search.line_turns.Goals.{else-asks, then-asks}
use Rattle.pair_cross.proofs.search.line_turns.Goals as goal

pub loop-j-preserved : goal.loop-j-preserved
loop-j-preserved c =
    let l = c.loop-j in
    let a = c.args in
    let g = a.givens.now in
    let F = a.frame in
    let taken = lines-each g F l.invariant.1.framed a.i l.j l.masks in
    let block = lines_instances F a.i in
    elim c.if-asks.branch [
      | then-asks w ↦ (
        turn-done (lines_taken g F a.i) 9 l.j (omega arith) (w.masks-is ∙ w.two_turn-heat.ensures.masks_after) l.invariant.0,
        seen_same w.two_turn-heat.ensures.seen w.masks-is w.held-is w.heat-is,
        log-done g block 9 l.j l.masks l.log (omega arith) (w.masks-is ∙ w.two_turn-heat.ensures.masks_after ∙ sym taken) (w.log-is ∙ w.two_turn-heat.ensures.log_after) l.invariant.2,
      )
      | else-asks w ↦
          let idle = cold-seen l.invariant.1 a.i l.j (omega arith) (omega arith) (sym c.asks.ensures ∙ w.if-asks.false) in (
            turn-done (lines_taken g F a.i) 9 l.j (omega arith) (w.masks-is ∙ sym idle) l.invariant.0,
            seen_same l.invariant.1 w.masks-is w.held-is w.heat-is,
            log-done g block 9 l.j l.masks l.log (omega arith) (w.masks-is ∙ sym (taken ∙ idle)) (w.log-is ∙ sym (log-idle g (block l.j) l.masks l.log (taken ∙ idle))) l.invariant.2,
          )
    ]

pub returns : goal.returns
returns c =
    let l = c.loop-j in
    let a = c.args in
    let g = a.givens.now in record {
      masks_after = turns-over (lines_taken g a.frame a.i) 9 l.j c.loop-j-test.false l.invariant.0;
      seen = l.invariant.1;
      log_after = log-over g (lines_instances a.frame a.i) 9 l.j l.masks l.log c.loop-j-test.false l.invariant.2;
    }
