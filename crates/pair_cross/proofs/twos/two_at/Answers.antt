-- `pair_cross::twos::two_at` meets its contract. Assumes nothing.
use mathlib.Core.Path.{◌≡◌, sym, ap, ◌∙◌}
use mathlib.Core.Bool.{Bool}
use Prim.Native.Nat.{ℕ, ◌<◌}
use lib.Dec.{eqb}
use Rattle.candidates.specs.Masks.{minus, union, place_mask, count}
use Rattle.candidates.proofs.Counts.{test-none}
use Rattle.candidates.proofs.Tests.{cond-true, cond-false}
use Rattle.steps.specs.Instances.{both}
use Rattle.steps.proofs.StepLogs.{log-none}
use Rattle.cells.proofs.Losses.{noted-lost, noted-kept}
use Rattle.cells.proofs.NineBits.{both_is}
use Rattle.pair_cross.specs.code.Twos.{frame_instance, two_lose, two_turn}
use Rattle.pair_cross.proofs.FrameLogs.{turn-taken}
use Rattle.pair_cross.proofs.twos.two_at.Goals as goal

-- what is tested: whether the two hold nothing outside a and b
tested : (held a b : ℕ) (r : Bool) (l u x y : ℕ) → a < 9 → b < 9 → r ≡ eqb (count l) 0 → l ≡ minus held u → u ≡ union x y → x ≡ place_mask a → y ≡ place_mask b → r ≡ eqb (minus held (both a b)) 0
tested held a b r l u x y ha hb is lose join one other = is ∙ sym (test-none l) ∙ ap (λ (k : ℕ). eqb k 0)
    (lose ∙ ap (minus held) (join ∙ ap (λ (k : ℕ). union k y) one ∙ ap (union (place_mask a)) other ∙ both_is a b ha hb))

pub returns-then-lose_two : goal.returns-then-lose_two
unfolding two_turn
returns-then-lose_two c =
    let a = c.args in
    let p = c.requires in
    let now = a.masks.now in
    let lost = two_lose a.givens.now a.frame a.i a.j a.a a.b now in
    let the-test = eqb (minus a.held (both a.a a.b)) 0 in
    let test = tested a.held a.a a.b _ _ _ _ _ p.3 p.4 c.is_none.ensures c.lose.ensures c.join.ensures c.digit_mask.ensures c.digit_mask-2.ensures in
    let takes = turn-taken a.givens.now a.frame p.0 a.i a.j p.1 p.2 now p.5 a.a a.b p.3 p.4 in
    let after = c.lose_two.ensures.masks_after ∙ sym (cond-true the-test lost now (sym test ∙ c.if-is_none.true)) in record {
      masks_after = after;
      log_after = c.note_two.ensures ∙ noted-lost a.givens.now (frame_instance a.frame a.i a.j a.a a.b) now (after ∙ sym takes) a.log.now (sym c.lose_two.ensures.value ∙ c.if-lose_two.true);
    }

pub returns-else-lose_two : goal.returns-else-lose_two
unfolding two_turn
returns-else-lose_two c =
    let a = c.args in
    let p = c.requires in
    let now = a.masks.now in
    let lost = two_lose a.givens.now a.frame a.i a.j a.a a.b now in
    let the-test = eqb (minus a.held (both a.a a.b)) 0 in
    let test = tested a.held a.a a.b _ _ _ _ _ p.3 p.4 c.is_none.ensures c.lose.ensures c.join.ensures c.digit_mask.ensures c.digit_mask-2.ensures in
    let takes = turn-taken a.givens.now a.frame p.0 a.i a.j p.1 p.2 now p.5 a.a a.b p.3 p.4 in
    let after = c.lose_two.ensures.masks_after ∙ sym (cond-true the-test lost now (sym test ∙ c.if-is_none.true)) in record {
      masks_after = after;
      log_after = noted-kept a.givens.now (frame_instance a.frame a.i a.j a.a a.b) now (after ∙ sym takes) a.log.now (sym c.lose_two.ensures.value ∙ c.if-lose_two.false);
    }

pub returns-else-is_none : goal.returns-else-is_none
unfolding two_turn
returns-else-is_none c =
    let a = c.args in
    let p = c.requires in
    let now = a.masks.now in
    let lost = two_lose a.givens.now a.frame a.i a.j a.a a.b now in
    let the-test = eqb (minus a.held (both a.a a.b)) 0 in
    let test = tested a.held a.a a.b _ _ _ _ _ p.3 p.4 c.is_none.ensures c.lose.ensures c.join.ensures c.digit_mask.ensures c.digit_mask-2.ensures in
    let takes = turn-taken a.givens.now a.frame p.0 a.i a.j p.1 p.2 now p.5 a.a a.b p.3 p.4 in
    let idle = cond-false the-test lost now (sym test ∙ c.if-is_none.false) in record {
      masks_after = sym idle;
      log_after = sym (log-none a.givens.now (frame_instance a.frame a.i a.j a.a a.b) now a.log.now (takes ∙ idle));
    }
