-- The published cases P1 to P11, each of document 01's sentences as an equation about the definitions, and those of document 02's requests; proofs/Cases.antt shows them all.
use Rattle.std.specs.Prelude.{◌≡◌, ◌≢◌, true, false, List, [], ◌∷◌, ◌++◌, map, ℕ, ◌≤◌, ◌<◌, ℤ, pos, negsuc, length, get_or, replicate, set}
use Rattle.stops.specs.Answer.{gives, stop}
use Rattle.stops.specs.Stops.{row_of}
use Rattle.stops.specs.declared.Stop.TheVariants.{TextLength, OtherByte, BadClue, BadDigit, NoCell, RecordEntry, NotFresh, BadEntry, ClueCell, AlreadyEntered, NotEntered, RecordEntries, BadStep, TooManySteps, NoOpenCell}
use Rattle.candidates.specs.Masks.{has}
use Rattle.grid.specs.Cells.{cells}
use Rattle.grid.specs.Fillings.{verified}
use Rattle.steps.specs.Boards.{Board, at, givens_of, givens, no_entries, with_masks, fresh, same_board}
use Rattle.steps.specs.Calls.{Call, Outcome, naked_pairs_call, box_line_call, x_wing_call, naked_singles_call, hidden_singles_call, advanced_call, wide, settling_call, chain_call, outcome, check_of, opened, opened_with}
use Rattle.steps.specs.Difficulty.{pass_counts, difficulty_of}
use Rattle.steps.specs.Entries.{enter, rub_out, entry_answer, step, entry, play}
use Rattle.steps.specs.Instances.{pointing}
use Rattle.steps.specs.Passes.{Kind, Claiming, removed_by}
use Rattle.steps.specs.Singles.{Report}
use Rattle.steps.specs.StepLists.{check_steps_of, settling_steps, bytes_of}
use Rattle.symmetries.specs.Changes.{changed_clues, turned}
use Rattle.board.specs.Boards.{clue_count, handed, open_of, verdict_of}
use Rattle.board.specs.declared.Verdict.TheVariants.{Dead}
use Rattle.text.specs.Texts.{parse_of}
use Rattle.record.specs.declared.forms.Form.TheVariants.{Old, New}
use Rattle.record.specs.Moves.{moved_of}
use Rattle.record.specs.Records.{bytes_in, record_of, read_of}
use Rattle.card.specs.Cards.{card_of, printed}
use Rattle.cases.specs.Bytes.{ended, p3_text, p10_text, p10_steps, digit_text, p2_line, p3_line, p10_card, full_card, finished_word, dead_word}
use Rattle.cases.specs.Grids.{grid_a, p1, p4_low, p4_high, p5, exchanged, p7, p8, p10, p11, claimed, clothed, two_open}

-- the fresh masks of a grid
abbrev pub fresh_masks : List ℤ → List ℕ
fresh_masks clues = fresh (givens_of clues)

-- what a call answers on the fresh board of a grid
abbrev pub on_fresh : Call → List ℤ → Outcome
on_fresh k clues = outcome k (givens_of clues) (fresh_masks clues)

-- the pass says that it removed nothing, and leaves the masks of the fresh board
pub record Idle (k : Call) (clues : List ℤ) : Type 0 where
  pub flag : (on_fresh k clues).flag ≡ false
  pub masks : (on_fresh k clues).masks ≡ fresh_masks clues

-- so do all passes, the ported ones and the wide ones
pub record AllIdle (clues : List ℤ) : Type 0 where
  pub naked_pairs : Idle naked_pairs_call clues
  pub box_line : Idle box_line_call clues
  pub x_wing : Idle x_wing_call clues
  pub chain : Idle chain_call clues
  pub wides : (k : Kind) → Idle (wide k) clues

-- "P1 81 dots: masks 511; all ported and wide passes false; settling 1 sweep, 0 removed; record 00 00 00", which is the old form
pub record Case1 : Type 0 where
  pub read : parse_of (replicate 81 46) ≡ gives p1
  pub masks : fresh_masks p1 ≡ replicate 81 511
  pub passes : AllIdle p1
  pub naked : (on_fresh naked_singles_call p1).flag ≡ false
  pub hidden : (on_fresh hidden_singles_call p1).flag ≡ false
  pub advanced : (on_fresh advanced_call p1).flag ≡ false
  pub sweeps : (on_fresh settling_call p1).sweeps ≡ 1
  pub removed : (on_fresh settling_call p1).removed ≡ 0
  pub bytes : bytes_in Old (opened p1) ≡ 0 ∷ 0 ∷ 0 ∷ []

-- "P2 80 bytes: 1, 80." And what `scorecard` prints for such a text, as it is or with a final newline.
pub record Case2 : Type 0 where
  pub short : (text : List ℕ) → length text ≡ 80 → parse_of text ≡ stop (TextLength (pos 80))
  pub row : row_of (TextLength (pos 80)) ≡ record { number = 1; detail = pos 80 }
  pub card : (text : List ℕ) → length text ≡ 80 → (get_or text 79 0 ≡ 10 → ⊥) → printed (card_of text) ≡ p2_line
  pub card_ended : (text : List ℕ) → length text ≡ 80 → printed (card_of (ended text)) ≡ p2_line

-- "P3 `a` as last of 81: 2, 80."
pub record Case3 : Type 0 where
  pub last : parse_of p3_text ≡ stop (OtherByte (pos 80))
  pub row : row_of (OtherByte (pos 80)) ≡ record { number = 2; detail = pos 80 }
  pub card : printed (card_of p3_text) ≡ p3_line
  pub card_ended : printed (card_of (ended p3_text)) ≡ p3_line

-- "P4 clue -1 at cell 0: 3, 0. Clue 10 at cell 80: 3, 80." The opener's, and of a board that is handed in, whatever its entries and masks: the clues are checked first.
pub record Case4 : Type 0 where
  pub opens_low : open_of p4_low ≡ stop (BadClue (pos 0))
  pub opens_high : open_of p4_high ≡ stop (BadClue (pos 80))
  pub low : (es : List ℤ) (m : List ℕ) → check_of (handed p4_low es m) ≡ stop (BadClue (pos 0))
  pub high : (es : List ℤ) (m : List ℕ) → check_of (handed p4_high es m) ≡ stop (BadClue (pos 80))
  pub row_low : row_of (BadClue (pos 0)) ≡ record { number = 3; detail = pos 0 }
  pub row_high : row_of (BadClue (pos 80)) ≡ record { number = 3; detail = pos 80 }

-- the report of digit 1 in cell 0
abbrev pub one : Report
one = record { cell = 0; digit = 1 }

-- "P5 A with cell 0 open: mask 1; (0, 1) reported once naked, three times hidden."
pub record Case5 : Type 0 where
  pub mask : at (fresh_masks p5) 0 ≡ 1
  pub naked : (on_fresh naked_singles_call p5).reports ≡ one ∷ []
  pub hidden : (on_fresh hidden_singles_call p5).reports ≡ one ∷ one ∷ one ∷ []

-- "P6 verifier: A yes; cell 80 set to 0, to 10 or to -2147483648 no; cells 0 and 1 exchanged no."
pub record Case6 : Type 0 where
  pub right : verified grid_a ≡ true
  pub nothing : verified (set grid_a 80 (pos 0)) ≡ false
  pub ten : verified (set grid_a 80 (pos 10)) ≡ false
  pub lowest : verified (set grid_a 80 (negsuc 2147483647)) ≡ false
  pub swapped : verified exchanged ≡ false

-- "P7 A with cells 0, 1, 27, 28, 54, 55 open: masks 3, 3, 6, 6, 5, 5; no pass removes."
pub record Case7 : Type 0 where
  pub masks : map (at (fresh_masks p7)) (0 ∷ 1 ∷ 27 ∷ 28 ∷ 54 ∷ 55 ∷ []) ≡ 3 ∷ 3 ∷ 6 ∷ 6 ∷ 5 ∷ 5 ∷ []
  pub passes : AllIdle p7

-- "P8 row 0 `...456789`, row 1 `3........`, rest open: cells 0, 1, 2 have mask 3; naked pairs removes 12, cell 2 becomes 0."
pub record Case8 : Type 0 where
  pub masks : map (at (fresh_masks p8)) (0 ∷ 1 ∷ 2 ∷ []) ≡ 3 ∷ 3 ∷ 3 ∷ []
  pub removed : removed_by (fresh_masks p8) (on_fresh naked_pairs_call p8).masks ≡ 12
  pub emptied : at (on_fresh naked_pairs_call p8).masks 2 ≡ 0

-- "P9 `apply_advanced_techniques` on the fresh board of P8: true, masks fresh."
pub record Case9 : Type 0 where
  pub flag : (on_fresh advanced_call p8).flag ≡ true
  pub masks : (on_fresh advanced_call p8).masks ≡ fresh_masks p8

-- "P10 row 1 `456......`, row 2 `789......`, rest open: box-line removes 18; a second run false."
-- The card that "`scorecard` given P10's text prints", and three of its numbers apart: "reported 0", "sweeps 2", "removed 18".
pub record Case10 : Type 0 where
  pub read : parse_of p10_text ≡ gives p10
  pub flag : (on_fresh box_line_call p10).flag ≡ true
  pub removed : removed_by (fresh_masks p10) (on_fresh box_line_call p10).masks ≡ 18
  pub again : (outcome box_line_call (givens_of p10) (on_fresh box_line_call p10).masks).flag ≡ false
  pub same : (outcome box_line_call (givens_of p10) (on_fresh box_line_call p10).masks).masks ≡ (on_fresh box_line_call p10).masks
  pub reported : (on_fresh advanced_call p10).reports ≡ []
  pub sweeps : (on_fresh settling_call p10).sweeps ≡ 2
  pub settled : (on_fresh settling_call p10).removed ≡ 18
  pub card : printed (card_of p10_text) ≡ p10_card
  pub card_ended : printed (card_of (ended p10_text)) ≡ p10_card

-- "P11 clue 5 at cells 0 and 1: opened; no other cell of row 0 holds 5." And of Pair: "in P11 the two clues 5 are a Pair with every other digit, so settling empties the open cells of row 0." Digit 5 is place 4.
pub record Case11 : Type 0 where
  pub taken : check_of (opened p11) ≡ gives tt
  pub others : (c : ℕ) → 2 ≤ c → c < 9 → has (at (opened p11).masks c) 4 ≡ false
  pub emptied : (c : ℕ) → 2 ≤ c → c < 9 → at (on_fresh settling_call p11).masks c ≡ 0

-- Document 02, F-4: "A setter typed 81 clues with a repeated digit and the card said `finished`". Grid A's card says `finished`; with cells 0 and 1 exchanged it says `dead`, and its last line has the 81 digits.
pub record CaseFull : Type 0 where
  pub right : printed (card_of (digit_text grid_a)) ≡ full_card finished_word (digit_text grid_a)
  pub repeated : printed (card_of (digit_text exchanged)) ≡ full_card dead_word (digit_text exchanged)

-- Document 02, F-5: row 0 `...456789`, rest open. Row 0 holds 1, 2 and 3 in box 0 alone, so Claiming takes them from the six cells below; no other wide pass removes anything, so that a sweep of five would stop at once.
pub record CaseClaiming : Type 0 where
  pub others : (k : Kind) → k ≢ Claiming → Idle (wide k) claimed
  pub flag : (on_fresh (wide Claiming) claimed).flag ≡ true
  pub removed : removed_by (fresh_masks claimed) (on_fresh (wide Claiming) claimed).masks ≡ 18
  pub sweeps : (on_fresh settling_call claimed).sweeps ≡ 2
  pub settled : (on_fresh settling_call claimed).removed ≡ 18

-- the fresh board of a grid with one entry
abbrev pub with_entry : List ℤ → ℕ → ℤ → Board
with_entry clues c z = opened_with clues (set no_entries c z)

-- what a call answers on it
abbrev pub on_entry : Call → List ℤ → ℕ → ℤ → Outcome
on_entry k clues c z = outcome k (givens (with_entry clues c z)) (with_entry clues c z).masks

-- Document 02, F-6.
pub record CaseEntries : Type 0 where
  -- P5 with 1 entered in cell 0: the masks are what they were, the cell is no longer reported, and the clues are 80 still
  pub right : entry_answer (enter 0 (pos 1)) (opened p5) ≡ gives (with_entry p5 0 (pos 1))
  pub masks : (with_entry p5 0 (pos 1)).masks ≡ fresh_masks p5
  pub naked : (on_entry naked_singles_call p5 0 (pos 1)).reports ≡ []
  pub counted : clue_count (givens_of (with_entry p5 0 (pos 1)).clues) cells ≡ 80
  -- an entry that contradicts: cell 1 has the clue 2
  pub wrong : entry_answer (enter 0 (pos 2)) (opened p5) ≡ gives (with_entry p5 0 (pos 2))
  pub dead : verdict_of (with_entry p5 0 (pos 2)).masks ≡ Dead
  -- entering, a pass, rubbing out: with 1 in cell 80 of P10 cell 8 lacks it, so that box-line removes 17; then all removals are gone
  pub removed : removed_by (with_entry p10 80 (pos 1)).masks (on_entry box_line_call p10 80 (pos 1)).masks ≡ 17
  pub rubbed : play (entry (enter 80 (pos 1)) ∷ step box_line_call ∷ entry (rub_out 80) ∷ []) (opened p10) ≡ opened p10
  -- stop 8, whatever the masks: an entry on a clue, and one above 9
  pub on_clue : (m : List ℕ) → check_of (handed p11 (set no_entries 1 (pos 5)) m) ≡ stop (BadEntry (pos 1))
  pub ten : (m : List ℕ) → check_of (handed p1 (set no_entries 80 (pos 10)) m) ≡ stop (BadEntry (pos 80))
  pub row8 : row_of (BadEntry (pos 80)) ≡ record { number = 8; detail = pos 80 }
  -- "the order is 5, 4 (entering only), 12, 13"
  pub five : entry_answer (enter 81 (pos 0)) (opened p5) ≡ stop (NoCell 81)
  pub four : entry_answer (enter 1 (pos 0)) (opened p5) ≡ stop (BadDigit (pos 0))
  pub twelve : entry_answer (enter 1 (pos 1)) (opened p5) ≡ stop (ClueCell 1)
  pub row12 : row_of (ClueCell 1) ≡ record { number = 12; detail = pos 1 }
  pub again : entry_answer (enter 0 (pos 2)) (with_entry p5 0 (pos 1)) ≡ stop (AlreadyEntered 0)
  pub nothing : entry_answer (rub_out 0) (opened p5) ≡ stop (NotEntered 0)
  pub row13 : (row_of (AlreadyEntered 0) ≡ record { number = 13; detail = pos 0 }) × (row_of (NotEntered 0) ≡ record { number = 13; detail = pos 0 })

-- Document 02, F-7: "P5's fresh board and the same with 1 entered in cell 0 have the same clues and masks", and are not equal.
pub record CaseEqual : Type 0 where
  pub clues : (opened p5).clues ≡ (with_entry p5 0 (pos 1)).clues
  pub masks : (opened p5).masks ≡ (with_entry p5 0 (pos 1)).masks
  pub told : same_board (opened p5) (with_entry p5 0 (pos 1)) ≡ false
  pub differ : opened p5 ≢ with_entry p5 0 (pos 1)

-- Document 02, F-8.
pub record CaseRecords : Type 0 where
  -- "P1 gives 00 00 00 00"; with 1 entered in cell 80, one entry and no removal
  pub bytes : record_of (opened p1) ≡ 0 ∷ 0 ∷ 0 ∷ 0 ∷ []
  pub entered : record_of (with_entry p1 80 (pos 1)) ≡ 0 ∷ 1 ∷ 80 ∷ 1 ∷ 0 ∷ 0 ∷ []
  -- P1's old record moved, and moved back
  pub onward : moved_of Old (0 ∷ 0 ∷ 0 ∷ []) ≡ gives (0 ∷ 0 ∷ 0 ∷ 0 ∷ [])
  pub back : moved_of New (0 ∷ 0 ∷ 0 ∷ 0 ∷ []) ≡ gives (0 ∷ 0 ∷ 0 ∷ [])
  -- "14, a move back of a record with entries, with the offset of its entry count"
  pub fourteen : moved_of New (0 ∷ 1 ∷ 80 ∷ 1 ∷ 0 ∷ 0 ∷ []) ≡ stop (RecordEntries (pos 1))
  pub row14 : row_of (RecordEntries (pos 1)) ≡ record { number = 14; detail = pos 1 }
  -- "01's 8 also covers an entry on a clue cell and 01's 9 a removal on an entered one"
  pub on_clue : read_of (1 ∷ 0 ∷ 5 ∷ 1 ∷ 0 ∷ 5 ∷ 0 ∷ 0 ∷ []) ≡ stop (RecordEntry (pos 4))
  pub on_entry : read_of (0 ∷ 1 ∷ 0 ∷ 5 ∷ 1 ∷ 0 ∷ 0 ∷ 5 ∷ []) ≡ stop (NotFresh (pos 6))

-- Document 02, F-13: "Sweep counts and the order of reports may differ between the two." A grid settles in two sweeps and, with rows and columns exchanged, in three; of A with cells 1 and 9 open, 2 is reported in cell 1 before 4 in cell 9, and with rows and columns exchanged 4 before 2.
pub record CaseClothes : Type 0 where
  pub sweeps : (on_fresh settling_call clothed).sweeps ≡ 2
  pub turned_sweeps : (on_fresh settling_call (changed_clues turned clothed)).sweeps ≡ 3
  pub reports : (on_fresh naked_singles_call two_open).reports ≡ record { cell = 1; digit = 2 } ∷ record { cell = 9; digit = 4 } ∷ []
  pub turned_reports : (on_fresh naked_singles_call (changed_clues turned two_open)).reports ≡ record { cell = 1; digit = 4 } ∷ record { cell = 9; digit = 2 } ∷ []

-- Document 02, F-10.
pub record CaseSteps : Type 0 where
  -- P10's own list: in row 0 of the first box alone stand 1, 2 and 3, and Pointing takes each from six cells
  pub own : settling_steps (givens_of p10) (fresh_masks p10) ≡ pointing 0 0 0 ∷ pointing 0 1 0 ∷ pointing 0 2 0 ∷ []
  pub bytes : bytes_of (pointing 0 0 0 ∷ pointing 0 1 0 ∷ pointing 0 2 0 ∷ []) ≡ p10_steps
  -- "that list is always accepted and gives the settled board"
  pub accepted : check_steps_of (opened p10) p10_steps ≡ gives (with_masks (opened p10) (on_fresh settling_call p10).masks)
  -- its last step twice, and "a shorter last piece"
  pub twice : check_steps_of (opened p10) (p10_steps ++ 3 ∷ 18 ∷ 3 ∷ 0 ∷ 0 ∷ 0 ∷ []) ≡ stop (BadStep (pos 3))
  pub short : check_steps_of (opened p10) (p10_steps ++ 3 ∷ 18 ∷ 3 ∷ []) ≡ stop (BadStep (pos 3))
  -- "16, more than 729 steps, with their number": 729 steps and a byte
  pub many : (bs : List ℕ) → length bs ≡ 4375 → check_steps_of (opened p10) bs ≡ stop (TooManySteps (pos 730))
  pub row15 : row_of (BadStep (pos 3)) ≡ record { number = 15; detail = pos 3 }
  pub row16 : row_of (TooManySteps (pos 730)) ≡ record { number = 16; detail = pos 730 }

-- Document 02, F-14.
pub record CaseDifficulty : Type 0 where
  -- "P10 has 54 points over 75 cells: 0, remainder 54": Pointing removes all 18
  pub counts : pass_counts (givens_of p10) (fresh_masks p10) ≡ 0 ∷ 0 ∷ 0 ∷ 18 ∷ 0 ∷ 0 ∷ []
  pub figure : difficulty_of (opened p10) ≡ gives (record { points = 54; cells = 75; quotient = 0; remainder = 54 })
  -- "A full grid has no figure and stops with 19, no open cell without an entry, with detail 0": A, and P5 with its one open cell entered
  pub full : difficulty_of (opened grid_a) ≡ stop NoOpenCell
  pub entered : difficulty_of (with_entry p5 0 (pos 1)) ≡ stop NoOpenCell
  pub row19 : row_of NoOpenCell ≡ record { number = 19; detail = pos 0 }

-- The cases as a group.
pub record Cases : Type 0 where
  pub one : Case1
  pub two : Case2
  pub three : Case3
  pub four : Case4
  pub five : Case5
  pub six : Case6
  pub seven : Case7
  pub eight : Case8
  pub nine : Case9
  pub ten : Case10
  pub eleven : Case11
  pub full : CaseFull
  pub claiming : CaseClaiming
  pub entries : CaseEntries
  pub equal : CaseEqual
  pub records : CaseRecords
  pub clothes : CaseClothes
  pub steps : CaseSteps
  pub difficulty : CaseDifficulty
