-- The board's calls on numbers and arrays: what each answers, and what everything lent holds after it: beside a stop "lent bytes, sets and boards keep their contents".
use Rattle.std.specs.Prelude.{List, [], ◌∷◌, ℕ, ℤ, pos, get_or}
use Rattle.stops.specs.Answer.{map, passing, then, value_or}
use Rattle.grid.specs.Cells.{cells}
use Rattle.steps.specs.Boards.{Board, givens_of}
use Rattle.steps.specs.Calls.{check_of}
use Rattle.board.specs.Boards.{clue_count, cell_mask, open_of, verdict_of}
use Rattle.board.specs.declared.Verdict.{Verdict}
use Rattle.board.specs.declared.Verdict.TheVariants.{Dead, Finished, Open}
use Rattle.text.specs.Texts.{parse_of}
use Rattle.sudoku.specs.Codes.{coded, no_number, unknown}

-- how many of 81 numbers are clues
abbrev pub clue_number : List ℤ → ℤ
clue_number clues = pos (clue_count (givens_of clues) cells)

abbrev pub board_number : Board → ℤ
board_number b = clue_number b.clues

-- ---- the reader and the opener

abbrev pub read_code : List ℕ → List ℤ
read_code text = coded (map clue_number (parse_of text)) 0

abbrev pub read_clues : List ℕ → List ℤ → List ℤ
read_clues text lent = value_or lent (parse_of text)

abbrev pub open_code : List ℤ → List ℤ
open_code clues = coded (map board_number (open_of clues)) 0

abbrev pub open_masks : List ℤ → List ℕ → List ℕ
open_masks clues lent = value_or lent (map (λ b. b.masks) (open_of clues))

-- ---- accessors

abbrev pub verdict_number : Verdict → ℤ
verdict_number Dead = pos 0
verdict_number Finished = pos 1
verdict_number Open = pos 2

-- 0 clue_count, 1 verdict, 2 the mask of one cell
abbrev pub questions : Board → ℕ → List (List ℤ)
questions b c =
    coded (passing (check_of b) (board_number b)) 0 ∷
    coded (passing (check_of b) (verdict_number (verdict_of b.masks))) 0 ∷
    coded (then (check_of b) (λ _. map pos (cell_mask b.masks c))) 0 ∷
    []

unfoldable pub asked : ℕ → Board → ℕ → List ℤ
asked k b c = get_or (questions b c) k (unknown k)

-- a call whose value is an array: nothing but the stop is a number
abbrev pub check_code : Board → List ℤ
check_code b = coded (map no_number (check_of b)) 0

-- the array that it is written to
abbrev pub kept_check : {A : Type 0} → Board → A → A → A
kept_check b a lent = value_or lent (passing (check_of b) a)
