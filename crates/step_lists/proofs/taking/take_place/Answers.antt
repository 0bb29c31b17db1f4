-- `step_lists::taking::take_place` meets its contract. Assumes nothing.
use mathlib.Core.Path.{◌≡◌, sym, ap, ◌∙◌}
use Prim.Native.Nat.{ℕ}
use Rattle.candidates.specs.Masks.{single}
use Rattle.grid.specs.Units.{unit_cell}
use Rattle.steps.specs.Boards.{is_open}
use Rattle.cells.specs.code.Places.{lose_in}
use Rattle.cells.proofs.Losses.{told_none}
use Rattle.cells.proofs.NineBits.{place_is}
use Rattle.step_lists.specs.code.Taking.{confined_to}
use Rattle.step_lists.proofs.Instances.{place-taken, place-left}
use Rattle.step_lists.proofs.taking.take_place.Goals as goal

pub returns-then-is_confined : goal.returns-then-is_confined
returns-then-is_confined c =
    let tested : c.is_confined.result ≡ confined_to c.args.masks.now c.args.unit c.args.digit (single c.args.place) = (
    let a = c.args in
    c.is_confined.ensures ∙ ap (confined_to a.masks.now a.unit a.digit) (c.digit_mask.ensures ∙ place_is a.place c.requires.2)
    ) in
    let a = c.args in
    let m = a.masks.now in
    let e =
    c.lose_at.ensures.masks_after
    ∙ ap (λ (e : ℕ). lose_in (is_open a.givens.now) e c.lose_digit-others.result m) c.unit_cell.ensures
    ∙ ap (λ (k : ℕ). lose_in (is_open a.givens.now) (unit_cell a.unit a.place) k m) c.lose_digit-others.ensures
    ∙ place-taken a.givens.now m a.unit a.digit a.place c.requires.0 c.requires.2 (sym (tested) ∙ c.if-is_confined.true) in record {
      masks_after = e;
      value = c.lose_at.ensures.value;
    }

pub returns-else-is_confined : goal.returns-else-is_confined
returns-else-is_confined c =
    let tested : c.is_confined.result ≡ confined_to c.args.masks.now c.args.unit c.args.digit (single c.args.place) = (
    let a = c.args in
    c.is_confined.ensures ∙ ap (confined_to a.masks.now a.unit a.digit) (c.digit_mask.ensures ∙ place_is a.place c.requires.2)
    ) in
    let a = c.args in record {
      masks_after = place-left a.givens.now a.masks.now a.unit a.digit a.place c.requires.0 c.requires.2 (sym (tested) ∙ c.if-is_confined.false);
      value = c.if-is_confined.false ∙ told_none a.masks.now;
    }
