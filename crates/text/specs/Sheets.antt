-- Pasted sheets (document 02, F-2): grids with rulings, and the canonical sheet of 81 clues. What a byte stands for is Texts' `byte_cell`.
use Rattle.std.specs.Prelude.{Bool, cond, not, ◌&&◌, ◌||◌, List, [], ◌∷◌, ◌++◌, map, ℕ, ◌+◌, ◌*◌, eqb, leb, ℤ, pos, length, get_or}
use Rattle.std.proofs.Math.Option.{Option}
use Rattle.stops.specs.Answer.{Answer, gives, stop, then, stop_at}
use Rattle.stops.specs.declared.Stop.TheVariants.{OtherByte, SheetLength, SheetCells}
use Rattle.steps.specs.Loops.{first, for, select, up_to}
use Rattle.text.specs.Texts.{is_other, clues_of, clue_byte}

-- ---- the reader

-- "passes over space, `|`, `-`, `+`, carriage return and line feed"
abbrev pub passed_over : ℕ → Bool
passed_over b = eqb b 32 || eqb b 124 || eqb b 45 || eqb b 43 || eqb b 13 || eqb b 10

-- the text that is left of a sheet: the bytes that are not passed over
abbrev pub unruled : List ℕ → List ℕ
unruled sheet = select (λ b. not (passed_over b)) sheet

-- "takes the other bytes as 01's text reader does": a byte that is no cell
abbrev pub is_stranger : ℕ → Bool
is_stranger b = not (passed_over b) && is_other b

-- "01's 2 with the offset", which is the byte's in the sheet
abbrev pub first_stranger : List ℕ → Option ℕ
first_stranger sheet = first (λ i. is_stranger (get_or sheet i 0)) (up_to (length sheet))

-- the cells of what is left: "11, not 81 cells after the last byte, with the number of cells"
abbrev pub cells_in : List ℕ → Answer (List ℤ)
cells_in text = cond (eqb (length text) 81) (gives (clues_of text)) (stop (SheetCells (pos (length text))))

-- "then 01's 2 with the offset; 11"
unfoldable pub cells_of : List ℕ → Answer (List ℤ)
cells_of sheet = then (stop_at OtherByte (first_stranger sheet)) λ _. cells_in (unruled sheet)

-- "10, the sheet is longer than 4,096 bytes, with its length, checked first"
unfoldable pub sheet_of : List ℕ → Answer (List ℤ)
sheet_of sheet = cond (leb (length sheet) 4096) (cells_of sheet) (stop (SheetLength (pos (length sheet))))

-- ---- the canonical sheet

-- "nine characters, `.` for open", and "a line feed"
abbrev pub sheet_line : List ℤ → ℕ → List ℕ
sheet_line clues row = map (λ col. clue_byte (get_or clues (9 * row + col) (pos 0))) (up_to 9) ++ (10 ∷ [])

-- "nine lines": 90 bytes; the writer is Texts' `write_of` and `written` of them
unfoldable pub canonical_sheet : List ℤ → List ℕ
canonical_sheet clues = for (up_to 9) (sheet_line clues)
