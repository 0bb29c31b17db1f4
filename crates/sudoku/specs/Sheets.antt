-- Reader and writer of sheets on numbers, arrays and lent bytes (document 02, F-2): what each answers, and what everything lent holds after it.
use Rattle.std.specs.Prelude.{List, ℕ, ℤ, pos, length}
use Rattle.stops.specs.Answer.{map, value_or}
use Rattle.text.specs.Sheets.{canonical_sheet, sheet_of}
use Rattle.text.specs.Texts.{write_of, written}
use Rattle.sudoku.specs.Boards.{clue_number}
use Rattle.sudoku.specs.Codes.{coded}

-- ---- the reader: as that of texts, the value is how many of the 81 are clues

abbrev pub sheet_read_code : List ℕ → List ℤ
sheet_read_code sheet = coded (map clue_number (sheet_of sheet)) 0

abbrev pub sheet_clues : List ℕ → List ℤ → List ℤ
sheet_clues sheet lent = value_or lent (sheet_of sheet)

-- ---- the canonical writer, which "returns 90"

abbrev pub sheet_code : List ℤ → List ℕ → List ℤ
sheet_code clues lent = coded (map pos (write_of 90 clues (length lent))) 0

abbrev pub written_sheet : List ℤ → List ℕ → List ℕ
written_sheet clues lent = written (write_of 90 clues (length lent)) (canonical_sheet clues) lent
