-- Grids in other clothes: `other-clothes`, whose statement is specs/OtherClothes.antt. Assumes nothing.
use mathlib.Core.Path.{◌≡◌, refl, sym, ap, ◌∙◌, subst}
use mathlib.Core.Bool.{true}
use mathlib.Core.List.{List, [], ◌∷◌}
use lib.IntN.{ℤ}
use Rattle.steps.specs.Boards.{Board, givens, Admissible}
use Rattle.steps.specs.Calls.{Clues, Entries, Call, settling_call, without_chain, outcome, left, run, opened_with}
use Rattle.steps.proofs.Fresh.{fresh-admissible}
use Rattle.steps.proofs.Lists.{Good, admitted-good, opened-good, board-givens, settles, list-theorem}
use Rattle.symmetries.specs.Changes.{Change, Symmetry, chained, changed_masks, changed_clues, changed_board}
use Rattle.symmetries.specs.OtherClothes.{settled_board, IsSettled, OtherClothes}
use Rattle.symmetries.proofs.Changed.{changed_then}
use Rattle.symmetries.proofs.Givens.{open-follows, clues-then, clues-follow, entries-follow, board-follows, fresh-board}
use Rattle.symmetries.proofs.Labels.{answered, good-follows, good-nine, left-nine, call-follows, lists-follow}
use Rattle.symmetries.proofs.Moves.{symmetry-then}
use Rattle.symmetries.proofs.SettledBoards.{settling-follows}
use Rattle.symmetries.proofs.SixKinds.{labels, rows-exchange, columns-exchange, bands-exchange, stacks-exchange, turns}

board-then : (v w : Change) → Symmetry v → Symmetry w → (b : Board) → changed_board (chained v w) b ≡ changed_board w (changed_board v b)
board-then v w s t b = λ i.
    record { clues = clues-then v w s t b.clues i; entries = clues-then v w s t b.entries i; masks = changed_then v w s t b.masks i }

module _ {w : Change} (s : Symmetry w) where
  settled-board : (b : Board) → Good Admissible b → settled_board (changed_board w b) ≡ changed_board w (settled_board b)
  unfolding run outcome
  settled-board b r =
      let q = good-follows s r in
      call-follows s settling_call r
      (settling-follows s (givens b) (givens (changed_board w b)) b.masks (open-follows s b.clues b.entries) (good-nine r)
      (settles (givens b) b.masks (board-givens b) r.masks) (settles (givens (changed_board w b)) (changed_masks w b.masks) (board-givens (changed_board w b)) q.masks)
      (left-nine settling_call r) (left-nine settling_call q))

-- settling a fresh board ends where every list ends that ends settled
module _ (clues entries : List ℤ) (ok : Clues clues) (en : Entries clues entries) where
  opens : Good Admissible (opened_with clues entries)
  opens = opened-good Admissible fresh-admissible clues entries ok en

  settling-ends : IsSettled (settled_board (opened_with clues entries))
  unfolding run outcome
  settling-ends =
      subst IsSettled (sym (ap (left (opened_with clues entries)) (answered settling_call (opened_with clues entries) opens)))
      (settles (givens (opened_with clues entries)) (opened_with clues entries).masks (board-givens (opened_with clues entries)) opens.masks).ends

  one_end : (ks : List Call) → without_chain ks ≡ true → IsSettled (run ks (opened_with clues entries)) → run ks (opened_with clues entries) ≡ settled_board (opened_with clues entries)
  one_end ks n t = (list-theorem.lists clues entries ok en ks (settling_call ∷ []) n refl t).1 settling-ends

lists-end : (w : Change) → Symmetry w → (clues entries : List ℤ) → Clues clues → Entries clues entries → (ks ls : List Call) → without_chain ks ≡ true → without_chain ls ≡ true
    → IsSettled (run ks (opened_with clues entries)) → IsSettled (run ls (opened_with (changed_clues w clues) (changed_clues w entries)))
    → run ls (opened_with (changed_clues w clues) (changed_clues w entries)) ≡ changed_board w (run ks (opened_with clues entries))
lists-end w s clues entries ok en ks ls nk nl e f =
    one_end (changed_clues w clues) (changed_clues w entries) (clues-follow s ok) (entries-follow s en) ls nl f
    ∙ ap settled_board (sym (fresh-board s clues entries)) ∙ settled-board s (opened_with clues entries) (opens clues entries ok en)
    ∙ ap (changed_board w) (sym (one_end clues entries ok en ks nk e))

pub other-clothes : OtherClothes
other-clothes =
    record {
      labels = labels;
      rows = rows-exchange;
      columns = columns-exchange;
      bands = bands-exchange;
      stacks = stacks-exchange;
      turns = turns;
      chains = λ v w s t. symmetry-then s t;
      after = board-then;
      admitted = λ w s b a. board-follows s b a;
      fresh = λ w s clues entries ok en. fresh-board s clues entries;
      lists = λ f o b a ks t. lists-follow o ks b t (admitted-good b a);
      settled = λ w s b a. settled-board s b (admitted-good b a);
      ends = lists-end;
    }
