-- `step_lists::taking::take_cross` meets its contract. Assumes nothing.
use mathlib.Core.Path.{◌≡◌, sym, ap, ◌∙◌}
use mathlib.Core.Bool.{◌&&◌}
use mathlib.Core.List.{List}
use Prim.Native.Nat.{ℕ, ◌+◌}
use Rattle.candidates.specs.Masks.{union}
use Rattle.steps.specs.Boards.{is_open}
use Rattle.steps.specs.Instances as instances
use Rattle.cells.specs.code.Places.{lose_places, all_but}
use Rattle.cells.proofs.Losses.{told_none, went_on, went-places}
use Rattle.cells.proofs.NineBits.{both_is}
use Rattle.step_lists.specs.code.Taking.{confined_to}
use Rattle.step_lists.proofs.Instances.{cross-taken, cross-left}
use Rattle.step_lists.proofs.taking.take_cross.Goals as goal

pub returns-then-are_confined : goal.returns-then-are_confined
returns-then-are_confined c =
    let a = c.args in
    let g = a.givens.now in
    let m = a.masks.now in
    let p = c.requires in
    let two : c.join-both.result ≡ instances.both a.a a.b = c.join-both.ensures ∙ (λ i. union (c.digit_mask.ensures i) (c.digit_mask-2.ensures i)) ∙ both_is a.a a.b p.4 p.5 in
    let test = c.are_confined.ensures ∙ ap (λ (x : ℕ). confined_to m (a.first + a.i) a.digit x && confined_to m (a.first + a.j) a.digit x) two in
    let lost : ℕ → ℕ → ℕ → List ℕ → List ℕ = λ u places k. lose_places (is_open g) u places k in
    let x = c.lose_places-one.ensures in
    let y = c.lose_places-other.ensures in
    let k = c.digit_mask-lost.result in record {
      masks_after = y.masks_after ∙ (λ i. lost (a.across + a.b) (c.all_but-then-are_confined.ensures i) k (x.masks_after i))
          ∙ (λ i. lost (a.across + a.b) (all_but a.i a.j) (c.digit_mask-lost.ensures i) (lost (a.across + a.a) (c.all_but.ensures i) (c.digit_mask-lost.ensures i) m))
          ∙ cross-taken g m a.first a.across a.digit a.i a.j a.a a.b p.0 p.1 p.2 p.3 p.4 p.5 (sym test ∙ c.if-are_confined.true);
      value = (went_on (went-places (is_open g) (a.across + a.a) c.all_but.result k x.masks_after x.value) (went-places (is_open g) (a.across + a.b) c.all_but-then-are_confined.result k y.masks_after y.value)).told;
    }

pub returns : goal.returns
returns c =
    let a = c.args in
    let m = a.masks.now in
    let p = c.requires in
    let two : c.join-both.result ≡ instances.both a.a a.b = c.join-both.ensures ∙ (λ i. union (c.digit_mask.ensures i) (c.digit_mask-2.ensures i)) ∙ both_is a.a a.b p.4 p.5 in
    let test = c.are_confined.ensures ∙ ap (λ (x : ℕ). confined_to m (a.first + a.i) a.digit x && confined_to m (a.first + a.j) a.digit x) two in record {
      masks_after = cross-left a.givens.now m a.first a.across a.digit a.i a.j a.a a.b p.0 p.1 p.2 p.3 p.4 p.5 (sym test ∙ c.if-are_confined.false);
      value = told_none m;
    }
