-- `step_lists::taking::take_lone` meets its contract. Assumes nothing.
use mathlib.Core.Path.{◌≡◌, sym, ap, ◌∙◌}
use Prim.Native.Nat.{ℕ}
use Rattle.candidates.specs.Masks.{single}
use Rattle.cells.specs.code.Places.{mask_at}
use Rattle.cells.proofs.Losses.{told_none}
use Rattle.cells.proofs.NineBits.{place_is}
use Rattle.lone_place.specs.code.Turns.{peers_lose}
use Rattle.step_lists.specs.code.Taking.{within_digits}
use Rattle.step_lists.proofs.Instances.{lone-taken, lone-left}
use Rattle.step_lists.proofs.taking.take_lone.Goals as goal

pub returns-then-is_within : goal.returns-then-is_within
returns-then-is_within c =
    let one : c.digit_mask-one.result ≡ single c.args.digit = (
    c.digit_mask-one.ensures ∙ place_is c.args.digit c.requires.1
    ) in
    let tested : c.is_within.result ≡ within_digits (mask_at c.args.masks.now c.args.cell) (single c.args.digit) = (
    let a = c.args in
    c.is_within.ensures ∙ ap (λ (x : ℕ). within_digits x c.digit_mask-one.result) c.mask_at.ensures ∙ ap (within_digits (mask_at a.masks.now a.cell)) (one)
    ) in
    let a = c.args in
    let e =
    c.lose_peers.ensures.masks_after ∙ ap (λ (k : ℕ). peers_lose a.givens.now a.cell k a.masks.now) (one)
    ∙ lone-taken a.givens.now a.masks.now a.cell a.digit c.requires.0 (sym (tested) ∙ c.if-is_within.true) in record {
      masks_after = e;
      value = c.lose_peers.ensures.value;
    }

pub returns-else-is_within : goal.returns-else-is_within
returns-else-is_within c =
    let one : c.digit_mask-one.result ≡ single c.args.digit = (
    c.digit_mask-one.ensures ∙ place_is c.args.digit c.requires.1
    ) in
    let tested : c.is_within.result ≡ within_digits (mask_at c.args.masks.now c.args.cell) (single c.args.digit) = (
    let a = c.args in
    c.is_within.ensures ∙ ap (λ (x : ℕ). within_digits x c.digit_mask-one.result) c.mask_at.ensures ∙ ap (within_digits (mask_at a.masks.now a.cell)) (one)
    ) in
    let a = c.args in record {
      masks_after = lone-left a.givens.now a.masks.now a.cell a.digit c.requires.0 (sym (tested) ∙ c.if-is_within.false);
      value = c.if-is_within.false ∙ told_none a.masks.now;
    }
