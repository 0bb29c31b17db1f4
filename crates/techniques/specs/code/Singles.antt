-- Singles as the code goes about them.
use Rattle.std.specs.Prelude.{List, ℕ, eqb}
use Rattle.candidates.specs.Masks.{count, lowest, minus}
use Rattle.grid.specs.Units.{unit_cell}
use Rattle.steps.specs.Loops.{for, up_to}
use Rattle.steps.specs.Singles.{Report, report_if}
use Rattle.cells.specs.code.Places.{unit_masks, spots_in}
use Rattle.cells.specs.code.Unions.{joined, shared_of}

-- the digits that just one of nine masks holds
abbrev pub once_of : List ℕ → ℕ
once_of nine = minus (joined nine) (shared_of nine)

-- s are the places that hold d
abbrev pub hidden_at : ℕ → ℕ → ℕ → List Report
hidden_at u s d = report_if (eqb (count s) 1) (unit_cell u (lowest s)) d

-- the hidden singles of one unit
unfoldable pub hidden_in : List ℕ → List ℕ → ℕ → List Report
hidden_in g m u = for (up_to 9) λ d. hidden_at u (spots_in (unit_masks g m u) d) d
