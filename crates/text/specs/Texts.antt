-- Grids as text (module 12): "81 bytes, `1` to `9`; `0` and `.` are open."
use Rattle.std.specs.Prelude.{Bool, true, false, cond, ◌&&◌, List, ◌++◌, map, ℕ, ◌+◌, ◌-◌, eqb, leb, ℤ, pos, length, get_or, drop}
use Rattle.std.proofs.Math.Option.{Option, none, some}
use Rattle.stops.specs.Answer.{Answer, gives, stop, passing, stop_at}
use Rattle.stops.specs.declared.Stop.TheVariants.{TextLength, OtherByte, BadClue, TooFewBytes}
use Rattle.grid.specs.Cells.{cells}
use Rattle.steps.specs.Boards.{digit_of}
use Rattle.steps.specs.Calls.{first_bad_clue}
use Rattle.steps.specs.Loops.{first}

-- what a byte stands for: a digit, 0 for an open cell, or nothing
abbrev pub byte_cell : ℕ → Option ℕ
byte_cell b = cond (eqb b 46) (some 0) (cond (leb 48 b && leb b 57) (some (b - 48)) none)

abbrev pub no_cell : Option ℕ → Bool
no_cell none = true
no_cell (some d) = false

abbrev pub is_other : ℕ → Bool
is_other b = no_cell (byte_cell b)

-- the clue of a byte; 0 for a byte that stands for nothing
abbrev pub cell_clue : Option ℕ → ℤ
cell_clue none = pos 0
cell_clue (some d) = pos d

abbrev pub byte_clue : ℕ → ℤ
byte_clue b = cell_clue (byte_cell b)

-- ---- the reader

-- "first other byte"
abbrev pub first_other : List ℕ → Option ℕ
first_other text = first (λ i. is_other (get_or text i 0)) cells

abbrev pub clues_of : List ℕ → List ℤ
clues_of text = map (λ i. byte_clue (get_or text i 0)) cells

-- "length not 81", then the first other byte
unfoldable pub parse_of : List ℕ → Answer (List ℤ)
parse_of text =
    cond (eqb (length text) 81) (passing (stop_at OtherByte (first_other text)) (clues_of text)) (stop (TextLength (pos (length text))))

-- ---- the writer

-- the byte of a clue 0 to 9: "`.` for open"
abbrev pub clue_byte : ℤ → ℕ
clue_byte z = cond (eqb (digit_of z) 0) 46 (digit_of z + 48)

-- the text that the writer gives
abbrev pub text_of : List ℤ → List ℕ
text_of clues = map (λ c. clue_byte (get_or clues c (pos 0))) cells

-- a writer of n bytes, 81 of a text: "lent bytes too few"; "then" the first bad clue; else it "returns" n
unfoldable pub write_of : ℕ → List ℤ → ℕ → Answer ℕ
write_of n clues lent = cond (leb n lent) (passing (stop_at BadClue (first_bad_clue clues)) n) (stop (TooFewBytes (pos lent)))

-- what it writes "into the first .. lent bytes ..; later bytes keep"; a refusal leaves all of them
abbrev pub written : Answer ℕ → List ℕ → List ℕ → List ℕ
written (gives n) bytes lent = bytes ++ drop n lent
written (stop s) bytes lent = lent

-- a text as the writer would write its cells: `.` for `0`
abbrev pub plain_byte : ℕ → ℕ
plain_byte b = cond (eqb b 48) 46 b

abbrev pub canonical : List ℕ → List ℕ
canonical text = map plain_byte text
