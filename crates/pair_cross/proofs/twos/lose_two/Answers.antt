-- `pair_cross::twos::lose_two` meets its contract. Assumes nothing.
use mathlib.Core.Path.{sym, ap, ◌∙◌, subst}
use Prim.Native.Nat.{ℕ, ◌+◌, ◌-◌}
use Rattle.candidates.specs.Masks.{union, place_mask}
use Rattle.steps.specs.Boards.{is_open}
use Rattle.cells.specs.code.Places.{lose_places, all_but}
use Rattle.cells.proofs.Crossings.{two-across}
use Rattle.cells.proofs.Losses.{went_on, went-places}
use Rattle.cells.proofs.NineBits.{both_is}
use Rattle.pair_cross.specs.code.Twos.{Framed, two_lose}
use Rattle.pair_cross.specs.declared.twos.Frame.{Frame}
use Rattle.pair_cross.proofs.Frames.{crossed, pair-lose}
use Rattle.pair_cross.proofs.twos.lose_two.Goals as goal

pub returns-in-Unit : goal.returns-in-Unit
returns-in-Unit c =
    let a = c.args in
    let u = c.in-Unit.unit in
    let m = a.masks.now in
    let e =
    c.lose_places.ensures.masks_after
    ∙ ap (λ (ps : ℕ). lose_places (is_open a.givens.now) u ps c.join-lost.result m) c.all_but-others.ensures
    ∙ ap (λ (k : ℕ). lose_places (is_open a.givens.now) u (all_but a.i a.j) k m)
    (c.join-lost.ensures ∙ ap (λ (x : ℕ). union x c.digit_mask-in-Unit.result) c.digit_mask.ensures ∙ ap (union (place_mask a.a)) c.digit_mask-in-Unit.ensures
    ∙ both_is a.a a.b c.requires.3 c.requires.4)
    ∙ pair-lose a.givens.now a.i a.j a.a a.b c.requires.1 c.requires.2 c.requires.3 c.requires.4 u (subst Framed c.in-Unit.is c.requires.0) m
    ∙ sym (ap (λ (F : Frame). two_lose a.givens.now F a.i a.j a.a a.b m) c.in-Unit.is) in record {
      masks_after = e;
      value = c.lose_places.ensures.value;
    }

pub returns-in-Lines : goal.returns-in-Lines
unfolding two_lose
returns-in-Lines c =
    let a = c.args in
    let f = c.in-Lines.first in
    let d = c.in-Lines.digit in
    let framed = subst Framed c.in-Lines.is c.requires.0 in
    let m = a.masks.now in
    let k = c.digit_mask-lost.result in
    let others = c.all_but-others.result in
    let x = c.lose_places-one.ensures in
    let y = c.lose_places-other.ensures in
    let e =
    y.masks_after
    ∙ ap (lose_places (is_open a.givens.now) (9 - f + a.b) others k) x.masks_after
    ∙ ap (λ (x : ℕ). lose_places (is_open a.givens.now) (9 - f + a.b) x k (lose_places (is_open a.givens.now) (9 - f + a.a) x k m)) c.all_but-others.ensures
    ∙ ap (λ (x : ℕ). lose_places (is_open a.givens.now) (9 - f + a.b) (all_but a.i a.j) x (lose_places (is_open a.givens.now) (9 - f + a.a) (all_but a.i a.j) x m)) c.digit_mask-lost.ensures
    ∙ two-across a.givens.now f (9 - f) d a.i a.j (crossed f framed.0) framed.1 c.requires.1 c.requires.2 a.a a.b c.requires.3 c.requires.4 m
    ∙ sym (ap (λ (F : Frame). two_lose a.givens.now F a.i a.j a.a a.b m) c.in-Lines.is) in record {
      masks_after = e;
      value = (went_on (went-places (is_open a.givens.now) (9 - f + a.a) others k x.masks_after x.value) (went-places (is_open a.givens.now) (9 - f + a.b) others k y.masks_after y.value)).told;
    }
