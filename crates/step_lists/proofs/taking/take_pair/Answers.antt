-- `step_lists::taking::take_pair` meets its contract. Assumes nothing.
use mathlib.Core.Path.{◌≡◌, sym, ap, ◌∙◌}
use mathlib.Core.Bool.{◌&&◌}
use Prim.Native.Nat.{ℕ}
use Rattle.candidates.specs.Masks.{union}
use Rattle.grid.specs.Units.{unit_cell}
use Rattle.steps.specs.Boards.{is_open}
use Rattle.steps.specs.Instances as instances
use Rattle.cells.specs.code.Places.{mask_at, lose_places}
use Rattle.cells.proofs.Losses.{told_none}
use Rattle.cells.proofs.NineBits.{both_is}
use Rattle.step_lists.specs.code.Taking.{within_digits}
use Rattle.step_lists.proofs.Instances.{pair-taken, pair-left}
use Rattle.step_lists.proofs.taking.take_pair.Goals as goal

pub returns-then-are_within : goal.returns-then-are_within
returns-then-are_within c =
    let a = c.args in
    let g = a.givens.now in
    let m = a.masks.now in
    let two : c.join-both.result ≡ instances.both a.a a.b = c.join-both.ensures ∙ (λ i. union (c.digit_mask.ensures i) (c.digit_mask-2.ensures i)) ∙ both_is a.a a.b c.requires.3 c.requires.4 in
    let test = c.are_within.ensures ∙ ap (λ (x : ℕ). within_digits (mask_at m (unit_cell a.unit a.i)) x && within_digits (mask_at m (unit_cell a.unit a.j)) x) two in record {
      masks_after = c.lose_places.ensures.masks_after ∙ (λ i. lose_places (is_open g) a.unit (c.all_but.ensures i) (two i) m)
          ∙ pair-taken g m a.unit a.i a.j a.a a.b c.requires.0 c.requires.1 c.requires.2 (sym test ∙ c.if-are_within.true);
      value = c.lose_places.ensures.value;
    }

pub returns-else-are_within : goal.returns-else-are_within
returns-else-are_within c =
    let a = c.args in
    let g = a.givens.now in
    let m = a.masks.now in
    let two : c.join-both.result ≡ instances.both a.a a.b = c.join-both.ensures ∙ (λ i. union (c.digit_mask.ensures i) (c.digit_mask-2.ensures i)) ∙ both_is a.a a.b c.requires.3 c.requires.4 in
    let test = c.are_within.ensures ∙ ap (λ (x : ℕ). within_digits (mask_at m (unit_cell a.unit a.i)) x && within_digits (mask_at m (unit_cell a.unit a.j)) x) two in record {
      masks_after = pair-left g m a.unit a.i a.j a.a a.b c.requires.0 c.requires.1 c.requires.2 (sym test ∙ c.if-are_within.false);
      value = c.if-are_within.false ∙ told_none m;
    }
