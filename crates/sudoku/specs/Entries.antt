-- Entering and rubbing out on numbers and arrays (document 02, F-6): what each answers, and what everything lent holds after it.
use Rattle.std.specs.Prelude.{List, ℕ, ℤ}
use Rattle.stops.specs.Answer.{map, value_or}
use Rattle.steps.specs.Boards.{Board}
use Rattle.steps.specs.Entries.{EntryCall, entry_answer}
use Rattle.sudoku.specs.Codes.{coded, no_number}

-- nothing but the stop is a number
abbrev pub pencil_code : EntryCall → Board → List ℤ
pencil_code k b = coded (map no_number (entry_answer k b)) 0

-- the arrays of the board that it leaves; beside a stop they keep their contents
abbrev pub pencil_entries : EntryCall → Board → List ℤ
pencil_entries k b = value_or b.entries (map (λ b. b.entries) (entry_answer k b))

abbrev pub pencil_masks : EntryCall → Board → List ℕ
pencil_masks k b = value_or b.masks (map (λ b. b.masks) (entry_answer k b))
