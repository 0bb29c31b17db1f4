-- Two boards are equal exactly if their clues, their entries and their masks are (document 02, F-7). Assumes nothing.
use mathlib.Core.Path.{◌≡◌, ap, subst}
use mathlib.Core.Bool.{true, ◌&&◌}
use Rattle.candidates.proofs.Tests.{both, both_left, both_right}
use Rattle.grid.specs.Fillings.{same_number}
use Rattle.grid.proofs.Lists as number
use Rattle.steps.specs.Boards.{Board, same_by, same_masks, same_board, EqualBoards}
use Rattle.steps.proofs.Masks.{list-refl, list-eq, same_refl, same-eq}

refl-test : (b : Board) → same_board b b ≡ true
unfolding same_board
refl-test b = both (both (list-refl same_number number.same_refl b.clues) (list-refl same_number number.same_refl b.entries)) (same_refl b.masks)

tested : (b c : Board) → same_board b c ≡ true → b ≡ c
unfolding same_board
tested b c t =
    let clues = same_by same_number b.clues c.clues in
    let entries = same_by same_number b.entries c.entries in
    let masks = same_masks b.masks c.masks in
    let fixed = both_left (clues && entries) masks t in
    let p = list-eq same_number number.same-eq b.clues c.clues (both_left clues entries fixed) in
    let q = list-eq same_number number.same-eq b.entries c.entries (both_right clues entries fixed) in
    let r = same-eq b.masks c.masks (both_right (clues && entries) masks t) in
    λ i. record { clues = p i; entries = q i; masks = r i }

pub equal-boards : EqualBoards
equal-boards =
    record {
      test = λ b c. (tested b c, λ e. subst (λ (d : Board). same_board b d ≡ true) e (refl-test b));
      parts = λ b c. (
        λ e. (ap (λ (d : Board). d.clues) e, ap (λ (d : Board). d.entries) e, ap (λ (d : Board). d.masks) e),
        λ p i. record { clues = p.0 i; entries = p.1 i; masks = p.2 i },
      );
    }
