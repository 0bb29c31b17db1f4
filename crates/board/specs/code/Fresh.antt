-- The way in which the code makes fresh masks: row by row of the grid, each given digit joins the sets of its three units.
use Rattle.std.specs.Prelude.{cond, List, ℕ, ◌-◌, eqb, set, replicate}
use Rattle.candidates.specs.Masks.{minus, place_mask}
use Rattle.grid.specs.Cells.{cell}
use Rattle.grid.specs.Marks.{join_units, seen}
use Rattle.steps.specs.Boards.{given, given_mask, is_open}
use Rattle.steps.specs.Loops.{each, up_to}

-- the mask of a given digit; none for 0, an open cell
abbrev pub digit_mask : ℕ → ℕ
digit_mask d = cond (eqb d 0) 0 (place_mask (d - 1))

-- ---- the digits that each unit is given

unfoldable pub join_given : List ℕ → ℕ → ℕ → List ℕ → List ℕ
join_given g r k s = cond (is_open g (cell r k)) s (join_units (cell r k) (given_mask g (cell r k)) s)

unfoldable pub join_row : List ℕ → ℕ → List ℕ → List ℕ
join_row g r s = each (join_given g r) (up_to 9) s

unfoldable pub unit_sets : List ℕ → List ℕ
unit_sets g = each (join_row g) (up_to 9) (replicate 27 0)

-- ---- the fresh masks

-- the fresh mask of a cell, from its given digit and the digits that it sees
abbrev pub fresh_mask : ℕ → ℕ → ℕ
fresh_mask d s = cond (eqb d 0) (minus 511 s) (digit_mask d)

unfoldable pub fresh_row : List ℕ → List ℕ → ℕ → List ℕ → List ℕ
fresh_row g sets r m = each (λ k m. set m (cell r k) (fresh_mask (given g (cell r k)) (seen sets (cell r k)))) (up_to 9) m
