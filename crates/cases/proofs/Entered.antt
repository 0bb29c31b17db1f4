-- Entering and rubbing out on P5 and P10 (document 02, F-6), and equality of boards (F-7). Assumes nothing.
use mathlib.Core.Path.{◌≡◌, refl, sym, ap, ◌∙◌, subst}
use mathlib.Core.Bool.{false, true≢false}
use mathlib.Core.List.{List, [], ◌∷◌}
use lib.Count.{ones}
use lib.IntN.{ℤ, pos}
use lib.ListN.{set}
use Rattle.stops.specs.Answer.{Answer, gives, stop, map, then, passing, value_or}
use Rattle.stops.specs.declared.Stop.TheVariants.{AlreadyEntered}
use Rattle.candidates.specs.Masks.{first_place, gather}
use Rattle.grid.specs.Cells.{cells, peers}
use Rattle.grid.specs.Fillings.{verified}
use Rattle.grid.specs.Units.{unit, units}
use Rattle.steps.specs.Boards.{Board, givens_of, together, givens, with_masks, no_entries, fresh, taken, total, same_board}
use Rattle.steps.specs.Calls.{Clues, Entries, naked_singles_call, box_line_call, outcome, answer, left, check_of, opened, opened_with}
use Rattle.steps.specs.Entries.{EntryCall, enter, rub_out, entries_after, entry_answer, step, entry, deed, play}
use Rattle.steps.specs.Loops.{each, for, first}
use Rattle.steps.specs.Passes.{removed_by}
use Rattle.steps.specs.Ported.{box_lines, box_line_at, spots}
use Rattle.steps.specs.Singles.{naked_singles}
use Rattle.steps.proofs.Check.{clues-by}
use Rattle.steps.proofs.Entries.{no-entries, entries-stay, opened-masks}
use Rattle.steps.proofs.EqualBoards.{equal-boards}
use Rattle.steps.proofs.Lists.{opened-taken, list-theorem}
use Rattle.board.specs.Boards.{clue_count, only_digits, verdict_of}
use Rattle.board.specs.declared.Verdict.TheVariants.{Dead}
use Rattle.cases.specs.Cases.{with_entry, on_entry, fresh_masks, CaseEntries, CaseEqual}
use Rattle.cases.proofs.P2to6.{p5-clues}
use Rattle.cases.specs.Grids.{grid_of, grid_a, p1, p5, p10, p11}

-- what a call answers on a board that the check takes
on-taken : (k : EntryCall) (b : Board) → check_of b ≡ gives tt → {a : Answer (List ℤ)} → entries_after k b.clues b.entries ≡ a → entry_answer k b ≡ map (opened_with b.clues) a
unfolding entry_answer
on-taken k b t e =
    ap (λ (w : Answer (Unit {0})). then w (λ _. map (opened_with b.clues) (entries_after k b.clues b.entries))) t ∙ ap (map (opened_with b.clues)) e

-- a board with one entry more is taken
entry-taken : (clues : List ℤ) → Clues clues → (k : EntryCall) (es : List ℤ) → entries_after k clues no_entries ≡ gives es → check_of (opened_with clues es) ≡ gives tt
unfolding play
entry-taken clues ok k es e = list-theorem.taken clues es ok (entries-stay clues no_entries (no-entries clues) k es e) []

-- what box-line leaves of such a board
pass-left : (b : Board) → check_of b ≡ gives tt → left b (answer box_line_call b) ≡ with_masks b (outcome box_line_call (givens b) b.masks).masks
unfolding answer
pass-left b t = ap (λ (w : Answer (Unit {0})). left b (passing w (outcome box_line_call (givens b) b.masks))) t

-- ---- P5

p5-taken : check_of (opened p5) ≡ gives tt
p5-taken = opened-taken p5 p5-clues

on-p5 : (k : EntryCall) {a : Answer (List ℤ)} → entries_after k p5 no_entries ≡ a → entry_answer k (opened p5) ≡ map (opened_with p5) a
unfolding opened_with
on-p5 k e = on-taken k (opened p5) p5-taken e

one-entered : entries_after (enter 0 (pos 1)) p5 no_entries ≡ gives (set no_entries 0 (pos 1))
unfolding entries_after p5 grid_a grid_of for
one-entered = refl

pub one-taken : check_of (with_entry p5 0 (pos 1)) ≡ gives tt
one-taken = entry-taken p5 p5-clues (enter 0 (pos 1)) (set no_entries 0 (pos 1)) one-entered

two-entered : entries_after (enter 0 (pos 2)) p5 no_entries ≡ gives (set no_entries 0 (pos 2))
unfolding entries_after p5 grid_a grid_of for
two-entered = refl

again : entry_answer (enter 0 (pos 2)) (with_entry p5 0 (pos 1)) ≡ stop (AlreadyEntered 0)
unfolding opened_with entries_after p5 grid_a grid_of for
again = on-taken (enter 0 (pos 2)) (with_entry p5 0 (pos 1)) one-taken refl

masks : (with_entry p5 0 (pos 1)).masks ≡ fresh_masks p5
unfolding opened_with together p5 grid_a grid_of for givens_of fresh taken each cells peers
masks = refl

unreported : (on_entry naked_singles_call p5 0 (pos 1)).reports ≡ []
unfolding opened_with together p5 grid_a grid_of for givens_of fresh taken each cells peers outcome naked_singles
unreported = refl

eighty : clue_count (givens_of (with_entry p5 0 (pos 1)).clues) cells ≡ 80
unfolding opened_with p5 grid_a grid_of for givens_of cells clue_count
eighty = refl

is-dead : verdict_of (with_entry p5 0 (pos 2)).masks ≡ Dead
unfolding opened_with together p5 grid_a grid_of for givens_of fresh taken each cells peers verdict_of only_digits verified first_place ones units
is-dead = refl

-- ---- P10

pub p10-clues : Clues p10
unfolding p10 grid_of for
p10-clues = clues-by p10 refl tt

abbrev p10-entered : Board
p10-entered = with_entry p10 80 (pos 1)

enters : entries_after (enter 80 (pos 1)) p10 no_entries ≡ gives (set no_entries 80 (pos 1))
unfolding entries_after p10 grid_of for
enters = refl

rubs : entries_after (rub_out 80) p10 (set no_entries 80 (pos 1)) ≡ gives no_entries
unfolding entries_after p10 grid_of for
rubs = refl

seventeen : removed_by p10-entered.masks (on_entry box_line_call p10 80 (pos 1)).masks ≡ 17
unfolding opened_with together p10 grid_of for givens_of fresh taken each cells peers outcome box_lines box_line_at spots gather ones unit units total
seventeen = refl

rubbed : play (entry (enter 80 (pos 1)) ∷ step box_line_call ∷ entry (rub_out 80) ∷ []) (opened p10) ≡ opened p10
unfolding play deed opened_with
rubbed =
    ap (λ (b : Board). play (step box_line_call ∷ entry (rub_out 80) ∷ []) b) (ap (value_or (opened p10)) (on-taken (enter 80 (pos 1)) (opened p10) (opened-taken p10 p10-clues) enters))
    ∙ ap (λ (b : Board). play (entry (rub_out 80) ∷ []) b) passed
    ∙ ap (value_or after) (on-taken (rub_out 80) after (subst (λ (b : Board). check_of b ≡ gives tt) passed still-taken) rubs)
  where
    good : Entries p10 (set no_entries 80 (pos 1))
    good = entries-stay p10 no_entries (no-entries p10) (enter 80 (pos 1)) (set no_entries 80 (pos 1)) enters

    after : Board
    after = with_masks p10-entered (on_entry box_line_call p10 80 (pos 1)).masks

    passed : left p10-entered (answer box_line_call p10-entered) ≡ after
    passed = pass-left p10-entered (list-theorem.taken p10 (set no_entries 80 (pos 1)) p10-clues good [])

    still-taken : check_of (left p10-entered (answer box_line_call p10-entered)) ≡ gives tt
    still-taken = list-theorem.taken p10 (set no_entries 80 (pos 1)) p10-clues good (step box_line_call ∷ [])

pub entries-hold : CaseEntries
unfolding entries_after opened_with p1 p5 p11 grid_a grid_of for check_of first cells
entries-hold =
    record {
      right = on-p5 (enter 0 (pos 1)) one-entered;
      masks = masks;
      naked = unreported;
      counted = eighty;
      wrong = on-p5 (enter 0 (pos 2)) two-entered;
      dead = is-dead;
      removed = seventeen;
      rubbed = rubbed;
      on_clue = λ m. refl;
      ten = λ m. refl;
      row8 = refl;
      five = on-p5 (enter 81 (pos 0)) refl;
      four = on-p5 (enter 1 (pos 0)) refl;
      twelve = on-p5 (enter 1 (pos 1)) refl;
      row12 = refl;
      again = again;
      nothing = on-p5 (rub_out 0) refl;
      row13 = (refl, refl);
    }

-- ---- two boards with the same clues and masks

one_entry : same_board (opened p5) (with_entry p5 0 (pos 1)) ≡ false
unfolding same_board opened_with together p5 grid_a grid_of for givens_of fresh taken each cells peers
one_entry = refl

pub equal-holds : CaseEqual
unfolding opened_with
equal-holds =
    record {
      clues = refl;
      masks = opened-masks p5 ∙ sym masks;
      told = one_entry;
      differ = λ e. true≢false (sym ((equal-boards.test (opened p5) (with_entry p5 0 (pos 1))).1 e) ∙ one_entry);
    }
