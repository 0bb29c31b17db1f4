-- Settling with its step list and its counts on numbers and arrays (document 02, F-10 and F-14): what it answers, and what everything lent holds after it.
use Rattle.std.specs.Prelude.{List, ℕ, ℤ, pos, length}
use Rattle.stops.specs.Answer.{Answer, gives, stop, map, value_or}
use Rattle.steps.specs.Boards.{Board}
use Rattle.steps.specs.Calls.{settling_call, answer, left}
use Rattle.passes.specs.Settlings.{counts_of, steps_done, counts_done, in_room}
use Rattle.passes.specs.declared.Counts.{Counts}
use Rattle.sudoku.specs.Codes.{four, refused}

-- the values are its sweeps and what it removed, as step 12 has them; beside them how many steps there are
abbrev pub settled_code : ℕ → Answer Counts → List ℤ
settled_code n (gives k) = four (pos 0) (pos n) (pos k.sweeps) (pos k.removed)
settled_code n (stop s) = refused s 0

abbrev pub settle_code : Board → List ℤ
settle_code b = settled_code (length (steps_done b)) (map counts_of (answer settling_call b))

abbrev pub settle_masks : Board → List ℕ
settle_masks b = (left b (answer settling_call b)).masks

-- six bytes a step, and zeros after the last; beside a stop the lent bytes keep their contents
abbrev pub settle_steps : Board → List ℕ → List ℕ
settle_steps b lent = value_or lent (map (λ _. in_room (steps_done b)) (answer settling_call b))

-- what each of the six wide passes removed, likewise
abbrev pub settle_counts : Board → List ℕ → List ℕ
settle_counts b lent = value_or lent (map (λ _. counts_done b) (answer settling_call b))
