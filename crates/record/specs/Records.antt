-- The record of a board (module 14, document 02, F-8): "the clue section, then an entry section of the same form, then the removed section measured from the fresh board with its entries". The old form, module 14's, has no entry section. A board is its clues, its entries and what its masks lack of the fresh ones.
use Rattle.std.specs.Prelude.{cond, List, [], ◌++◌, map, ℕ, ◌+◌, eqb, leb, ℤ, pos, length, replicate}
use Rattle.stops.specs.Answer.{Answer, gives, stop, then}
use Rattle.stops.specs.declared.Stop.TheVariants.{TooFewBytes, RecordBytes}
use Rattle.candidates.specs.Masks.{minus, lowest}
use Rattle.grid.specs.Cells.{cells}
use Rattle.steps.specs.Boards.{Board, at, given, givens, givens_of, together, is_open, given_mask, fresh}
use Rattle.steps.specs.Calls.{check_of}
use Rattle.record.specs.declared.forms.Form.{Form}
use Rattle.record.specs.declared.forms.Form.TheVariants.{Old, New}
use Rattle.record.specs.declared.sections.Section.TheVariants.{Digits, Removed}
use Rattle.record.specs.Sections.{SectionRead, with_sets, no_sets, section_bytes, read_section}

-- ---- boards as sets

-- the digits that cells are given, by clues or by entries: each cell's digit alone, nothing for an open cell
unfoldable pub digit_sets : List ℕ → List ℕ
digit_sets g = map (given_mask g) cells

-- what the first masks have and the second lack, cell by cell
unfoldable pub lacking : List ℕ → List ℕ → List ℕ
lacking f m = map (λ c. minus (at f c) (at m c)) cells

-- ---- the writer

-- the entry section, which the old form lacks
abbrev pub entry_section : Form → List ℕ → List ℕ
entry_section Old s = []
entry_section New s = section_bytes Digits s

-- the clues, the entries, and "what the fresh mask has and the board lacks"
unfoldable pub bytes_in : Form → Board → List ℕ
bytes_in k b =
    section_bytes Digits (digit_sets (givens_of b.clues)) ++ (entry_section k (digit_sets (givens_of b.entries)) ++ section_bytes Removed (lacking (fresh (givens b)) b.masks))

-- "Boards are written and read in this form from now on"
abbrev pub record_of : Board → List ℕ
record_of = bytes_in New

-- "lent bytes too few", with their length; else the record's length
abbrev pub write_in : ℕ → ℕ → Answer ℕ
write_in n lent = cond (leb n lent) (gives n) (stop (TooFewBytes (pos lent)))

-- "the record writer after its board's 3 and 9", and 8 between them; what it writes is text's `written`
unfoldable pub write_of : Board → ℕ → Answer ℕ
write_of b lent = then (check_of b) λ _. write_in (length (record_of b)) lent

-- ---- the reader

-- any candidate may be a clue
abbrev pub all_sets : List ℕ
all_sets = replicate 81 511

-- the digit of a set of one, 0 of none
abbrev pub digit_in : ℕ → ℕ
digit_in x = cond (eqb x 0) 0 (lowest x + 1)

unfoldable pub digits_in : List ℕ → List ℕ
digits_in s = map (λ c. digit_in (at s c)) cells

abbrev pub clues_from : List ℕ → List ℤ
clues_from g = map (λ c. pos (given g c)) cells

-- the numbers, clues or entries, of a section that was read
abbrev pub numbers_in : List ℕ → List ℤ
numbers_in s = clues_from (digits_in s)

-- the candidates of f in open cells
unfoldable pub open_sets : List ℕ → List ℕ → List ℕ
open_sets g f = map (λ c. cond (is_open g c) (at f c) 0) cells

-- any candidate may be an entry where there is no clue: "01's 8 also covers an entry on a clue cell"
abbrev pub read_entry_section : Form → List ℤ → List ℕ → ℕ → Answer SectionRead
read_entry_section Old clues bs i = gives (with_sets no_sets i)
read_entry_section New clues bs i = read_section Digits (open_sets (givens_of clues) all_sets) bs i

-- the board with these clues and entries, and masks that lack the candidates of s
unfoldable pub board_from : List ℤ → List ℤ → List ℕ → Board
board_from clues entries s = record { clues = clues; entries = entries; masks = lacking (fresh (givens_of (together clues entries))) s }

-- the removed section, of fresh candidates in cells that have neither clue nor entry, and nothing after it: "left over after all sections", with the "offset of the first such byte"
unfoldable pub read_removed : List ℤ → List ℤ → List ℕ → ℕ → Answer Board
read_removed clues entries bs i =
    let g = givens_of (together clues entries) in
    then (read_section Removed (open_sets g (fresh g)) bs i) λ r.
    cond (leb (length bs) r.next) (gives (board_from clues entries r.sets)) (stop (RecordBytes (pos r.next)))

unfoldable pub read_entered : Form → List ℤ → List ℕ → ℕ → Answer Board
read_entered k clues bs i = then (read_entry_section k clues bs i) λ e. read_removed clues (numbers_in e.sets) bs e.next

-- "The record is checked front to back."
unfoldable pub read_in : Form → List ℕ → Answer Board
read_in k bs = then (read_section Digits all_sets bs 0) λ c. read_entered k (numbers_in c.sets) bs c.next

abbrev pub read_of : List ℕ → Answer Board
read_of = read_in New
