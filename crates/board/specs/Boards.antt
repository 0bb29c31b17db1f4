-- What the calls of this crate answer on a board (modules 2 and 13, and the accessors).
use Rattle.std.specs.Prelude.{Bool, cond, not, List, [], ◌∷◌, map, ℕ, suc, eqb, ltb, ℤ, pos, replicate}
use Rattle.stops.specs.Answer.{Answer, gives, stop, passing, stop_at, then}
use Rattle.stops.specs.declared.Stop.TheVariants.{BadClue, BadEntry, NoCell}
use Rattle.candidates.specs.Masks.{low_nine, count}
use Rattle.candidates.specs.Sets.{only_of, digit_or0}
use Rattle.grid.specs.Cells.{cells}
use Rattle.grid.specs.Fillings.{verified}
use Rattle.grid.specs.Lists.{all}
use Rattle.steps.specs.Boards as S
use Rattle.steps.specs.Boards.{at, is_open, no_entries}
use Rattle.steps.specs.Calls.{first_bad_clue, first_bad_entry, opened, opened_with}
use Rattle.board.specs.declared.Board.{Board}
use Rattle.board.specs.declared.Verdict.{Verdict}
use Rattle.board.specs.declared.Verdict.TheVariants.{Dead, Finished, Open}

-- the board of the definitions that a board of the code is
abbrev pub board_of : Board → S.Board
board_of b = record { clues = b.clues; entries = b.entries; masks = b.masks }

-- the board that is handed over as its three arrays
abbrev pub handed : List ℤ → List ℤ → List ℕ → S.Board
handed clues entries masks = record { clues = clues; entries = entries; masks = masks }

-- what stands beside a refusal where no board was handed in
abbrev pub no_clues : List ℤ
no_clues = replicate 81 (pos 0)

abbrev pub no_masks : List ℕ
no_masks = replicate 81 0

abbrev pub no_board : S.Board
no_board = handed no_clues no_entries no_masks

-- the opener: "first clue outside 0 to 9", else clues and fresh masks
unfoldable pub open_of : List ℤ → Answer S.Board
open_of clues = passing (stop_at BadClue (first_bad_clue clues)) (opened clues)

-- the fresh board of clues and entries: a bad clue, then a bad entry, each with its first cell
unfoldable pub open_with_of : List ℤ → List ℤ → Answer S.Board
open_with_of clues entries =
    then (stop_at BadClue (first_bad_clue clues)) λ _.
    passing (stop_at BadEntry (first_bad_entry clues entries)) (opened_with clues entries)

-- how many cells have a clue: "`clue_count` and `original_puzzle` give the printed clues alone" (document 02, F-6)
unfoldable pub clue_count : List ℕ → List ℕ → ℕ
clue_count g [] = 0
clue_count g (c ∷ cs) = cond (is_open g c) (clue_count g cs) (suc (clue_count g cs))

-- one cell's mask: "cell above 80"
abbrev pub cell_mask : List ℕ → ℕ → Answer ℕ
cell_mask m c = cond (ltb c 81) (gives (at m c)) (stop (NoCell c))

-- each mask as a set of the nine digits
abbrev pub none_empty : List ℕ → Bool
none_empty m = all (λ c. not (eqb (count (low_nine (at m c))) 0)) cells

abbrev pub all_single : List ℕ → Bool
all_single m = all (λ c. eqb (count (low_nine (at m c))) 1) cells

-- the digit of each cell that holds one, else 0
unfoldable pub only_digits : List ℕ → List ℤ
only_digits m = map (λ c. digit_or0 (only_of (at m c))) cells

-- "`dead` if some mask is empty", `open` if some mask holds several, else "`finished` .. only if the 81 digits also pass the verifier. A board with one digit in every cell that fails it is `dead`." (document 02, F-4)
unfoldable pub verdict_of : List ℕ → Verdict
verdict_of m = cond (none_empty m) (cond (all_single m) (cond (verified (only_digits m)) Finished Dead) Open) Dead
