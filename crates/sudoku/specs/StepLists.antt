-- The checker of step lists on numbers and arrays (document 02, F-10): what it answers, and what the lent masks hold after it.
use Rattle.std.specs.Prelude.{List, ℕ, ℤ}
use Rattle.stops.specs.Answer.{map, value_or}
use Rattle.steps.specs.Boards.{Board}
use Rattle.steps.specs.StepLists.{check_steps_of}
use Rattle.sudoku.specs.Codes.{coded, no_number}

-- nothing but the stop is a number
abbrev pub checked_code : Board → List ℕ → List ℤ
checked_code b bs = coded (map no_number (check_steps_of b bs)) 0

-- the masks of the final board; beside a stop they keep their contents
abbrev pub checked_masks : Board → List ℕ → List ℕ
checked_masks b bs = value_or b.masks (map (λ b. b.masks) (check_steps_of b bs))
