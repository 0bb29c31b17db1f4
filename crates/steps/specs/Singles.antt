-- Singles (module 6): "these report (cell, digit) and change no mask".
use Rattle.std.specs.Prelude.{Bool, cond, List, [], ◌∷◌, ℕ, ◌+◌, eqb, ℤ, nat_abs}
use Rattle.std.proofs.Math.Option.{Option, none, some}
use Rattle.candidates.specs.Masks.{count, lowest}
use Rattle.candidates.specs.Sets.{only_of}
use Rattle.grid.specs.Cells.{cells}
use Rattle.grid.specs.Units.{unit_cell}
use Rattle.steps.specs.Boards.{at, is_open}
use Rattle.steps.specs.Loops.{for, up_to}
use Rattle.steps.specs.Ported.{spots}

pub record Report : Type 0 where
  pub cell : ℕ
  pub digit : ℕ

-- the report of place d in cell c, where the test holds
abbrev pub report_if : Bool → ℕ → ℕ → List Report
report_if t c d = cond t (record { cell = c; digit = d + 1 } ∷ []) []

-- the report of what `single_candidate` answers of cell c
abbrev pub report_only : ℕ → Option ℤ → List Report
report_only c (some z) = record { cell = c; digit = nat_abs z } ∷ []
report_only c none = []

abbrev pub naked_at : List ℕ → List ℕ → ℕ → List Report
naked_at g m c = cond (is_open g c) (report_only c (only_of (at m c))) []

-- "Naked: open cells rising with one candidate"
unfoldable pub naked_singles : List ℕ → List ℕ → List Report
naked_singles g m = for cells (naked_at g m)

-- "Hidden: rows, columns, boxes, in each unit digits rising, where one open cell holds it; .. repeats kept"
unfoldable pub hidden_singles : List ℕ → List ℕ → List Report
hidden_singles g m =
    for (up_to 27) λ u. for (up_to 9) λ d. report_if (eqb (count (spots g m u d)) 1) (unit_cell u (lowest (spots g m u d))) d
