-- The trial round on numbers and arrays (document 02, F-11): what it answers, and what the lent clues hold after it.
use Rattle.std.specs.Prelude.{List, ℕ, ℤ}
use Rattle.stops.specs.Answer.{map, value_or}
use Rattle.trial_rounds.specs.Rounds.{round_of}
use Rattle.sudoku.specs.Boards.{clue_number}
use Rattle.sudoku.specs.Codes.{coded}

-- the value is the number of clues, as the reader's
abbrev pub trial_code : ℕ → ℕ → List ℤ → List ℤ
trial_code start percentage solution = coded (map clue_number (round_of start percentage solution)) 0

abbrev pub trial_clues : ℕ → ℕ → List ℤ → List ℤ → List ℤ
trial_clues start percentage solution lent = value_or lent (round_of start percentage solution)
