use mathlib.Core.Path.{sym, ap₂, ◌∙◌}
use Prim.Native.Nat.{ℕ}
use native.Mathlib.Omega.{arith}
use Rattle.steps.specs.StepLists.{step_bytes}
use Rattle.steps.specs.code.Logs.{noted}
use Rattle.pair_cross.specs.code.Twos.{frame_instance, two_lose}
use Rattle.pair_cross.proofs.FrameLogs.{held-nine, two-noted}
use Rattle.pair_cross.proofs.TwoLines.{row-begun, row-over, left-start, left-same, left-on, left-end}
use Rattle.pair_cross.proofs.TwoPlaces.{two-turned, two-read}
use Rattle.pair_cross.proofs.twos.two_lines.Goals as goal

pub lose_two-requires : goal.lose_two-requires
lose_two-requires c =
    let a = c.args in
    let p = c.requires in
    let w = two-read (held-nine a.masks.now a.frame a.i a.j p.3) c.is_two.ensures c.if-is_two.true c.lowest_digit-a.ensures c.lose_lowest.ensures c.lowest_digit-b.ensures in
    (p.0, p.1, p.2, w.first-below, w.second-below)

pub note_two-requires : goal.note_two-requires
note_two-requires c =
    let a = c.args in
    let p = c.requires in
    let w = two-read (held-nine a.masks.now a.frame a.i a.j p.3) c.is_two.ensures c.if-is_two.true c.lowest_digit-a.ensures c.lose_lowest.ensures c.lowest_digit-b.ensures in
    (p.0, p.1, p.2, w.first-below, w.second-below)

pub returns-then-is_two : goal.returns-then-is_two
returns-then-is_two c =
    let a = c.args in
    let g = a.givens.now in
    let m = a.masks.now in
    let p = c.requires in
    let low = held-nine m a.frame a.i a.j p.3 in
    let w = two-read low c.is_two.ensures c.if-is_two.true c.lowest_digit-a.ensures c.lose_lowest.ensures c.lowest_digit-b.ensures in record {
      masks_after = c.lose_two.ensures.masks_after ∙ ap₂ (λ (x y : ℕ). two_lose g a.frame a.i a.j x y m) w.first w.second
          ∙ sym (two-turned a.held low w.two g a.frame a.i a.j m);
      log_after = c.note_two.ensures ∙ ap₂ (λ (x y : ℕ). noted (step_bytes (frame_instance a.frame a.i a.j x y)) a.log.now) w.first w.second
          ∙ sym (two-noted g a.frame p.0 a.i a.j p.1 p.2 m p.3 w.two p.4 a.log.now);
    }

pub loop-a-init : goal.loop-a-init
loop-a-init c =
    let a = c.args in
    let p = c.requires in
    left-start a.givens.now a.frame p.0 a.i a.j p.1 p.2 a.masks.now a.log.now p.3

pub loop-b-init : goal.loop-b-init
loop-b-init c =
    let a = c.args in
    let p = c.requires in
    left-same a.givens.now a.frame p.0 a.i a.j p.1 p.2 a.masks.now a.log.now (row-begun a.frame a.i a.j c.loop-a.a (omega arith)) c.loop-a.invariant

pub two_at-requires : goal.two_at-requires
two_at-requires c =
    let p = c.requires in
    (p.0, p.1, p.2, omega arith, omega arith, c.loop-b.invariant.kept)

pub loop-b-preserved : goal.loop-b-preserved
loop-b-preserved c =
    let a = c.args in
    let p = c.requires in
    left-on a.givens.now a.frame p.0 a.i a.j p.1 p.2 a.masks.now a.log.now c.loop-a.a c.loop-b.b (omega arith) (omega arith) c.loop-b.invariant c.two_at.ensures.masks_after c.two_at.ensures.log_after

pub loop-a-preserved : goal.loop-a-preserved
loop-a-preserved c =
    let a = c.args in
    let p = c.requires in
    left-same a.givens.now a.frame p.0 a.i a.j p.1 p.2 a.masks.now a.log.now (row-over a.frame a.i a.j c.loop-a.a c.loop-b.b (omega arith)) c.loop-b.invariant

pub returns : goal.returns
returns c =
    let a = c.args in
    let p = c.requires in
    let w = left-end a.givens.now a.frame p.0 a.i a.j p.1 p.2 a.masks.now a.log.now c.loop-a.a (omega arith) p.3 c.loop-a.invariant in
    record { masks_after = w.0; log_after = w.1 }
