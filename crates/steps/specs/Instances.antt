-- The instances of the six wide passes (module 8 and document 02, F-5): each is a kind and its numbers, in the paper's order, and has one step.
use Rattle.std.specs.Prelude.{cond, ◌||◌, List, [], ◌∷◌, ◌++◌, ℕ, ◌+◌, ◌-◌, ◌*◌, ◌/◌, ◌%◌, eqb, ltb}
use Rattle.candidates.specs.Masks.{minus, union, single}
use Rattle.grid.specs.Cells.{peers}
use Rattle.grid.specs.Units.{unit, unit_cell, in_unit}
use Rattle.steps.specs.Loops.{for, up_to, above}
use Rattle.steps.specs.Steps.{Step}

-- Digits d, a, b are places 0 to 8; i and j are places in a unit; k is one of the six lines that meet a box, three rows and then three columns, or one of the three boxes that meet a line l.
pub data Instance : Type 0 where
  lone : (c d : ℕ) → Instance
  place : (u d i : ℕ) → Instance
  pair : (u i j a b : ℕ) → Instance
  pointing : (b d k : ℕ) → Instance
  claiming : (l d k : ℕ) → Instance
  cross : (d r₁ r₂ c₁ c₂ : ℕ) → Instance
  exchanged : (d c₁ c₂ r₁ r₂ : ℕ) → Instance

-- the mask of two digits
abbrev pub both : ℕ → ℕ → ℕ
both a b = union (single a) (single b)

-- ---- units by their number: rows 0 to 8, columns 9 to 17, boxes 18 to 26

-- the k-th of the six lines that meet box b, three rows and then three columns
abbrev pub line_of : ℕ → ℕ → ℕ
line_of b k = cond (ltb k 3) (3 * (b / 3) + k) (9 + (3 * (b % 3) + (k - 3)))

-- the k-th of the three boxes that meet line l, a row or a column
abbrev pub box_of : ℕ → ℕ → ℕ
box_of l k = cond (ltb l 9) (18 + (3 * (l / 3) + k)) (18 + (3 * k + (l - 9) / 3))

-- ---- the steps

-- "Lone: cell, digit d. The cell holds nothing but d (or nothing): its peers lose d." The field: what a naked single eliminates.
abbrev pub lone_step : ℕ → ℕ → Step
lone_step c d = record { reads = c ∷ []; bars = λ _. minus 511 (single d); hits = peers c; loses = λ _. single d }

-- "Place: unit, digit d, cell of it. No other cell of the unit holds d: the cell loses all but d." The field: hidden single.
abbrev pub place_step : ℕ → ℕ → ℕ → Step
place_step u d c = record { reads = unit u; bars = λ e. cond (eqb e c) 0 (single d); hits = c ∷ []; loses = λ _. minus 511 (single d) }

-- "Pair: unit, two cells, digits a < b. Both hold nothing outside a, b: the unit's other cells lose both." The field: naked pair.
abbrev pub pair_step : ℕ → ℕ → ℕ → ℕ → ℕ → Step
pair_step u c e a b =
    record {
      reads = c ∷ e ∷ [];
      bars = λ _. minus 511 (both a b);
      hits = unit u;
      loses = λ x. cond (eqb x c || eqb x e) 0 (both a b);
    }

-- The step of Pointing and Claiming (the field: locked candidates, type 1 and type 2), over any two units: all cells of u that hold d lie in v, so the cells of v outside u lose d.
abbrev pub locked_step : ℕ → ℕ → ℕ → Step
locked_step u v d =
    record { reads = unit u; bars = λ e. cond (in_unit v e) 0 (single d); hits = unit v; loses = λ e. cond (in_unit u e) 0 (single d) }

-- The step of Cross (the field: X-wing), over any lines u, v and crossing lines x, y: all cells of u and v that hold d lie in x or y, so the cells of x and y outside u and v lose d.
abbrev pub cross_step : ℕ → ℕ → ℕ → ℕ → ℕ → Step
cross_step d u v x y =
    record {
      reads = unit u ++ unit v;
      bars = λ e. cond (in_unit x e || in_unit y e) 0 (single d);
      hits = unit x ++ unit y;
      loses = λ e. cond (in_unit u e || in_unit v e) 0 (single d);
    }

-- "Pointing: box, digit, its three rows then three columns. All cells of the box holding d are on that line: the line's cells outside the box lose d."
-- "All cells of a row or column that hold d are in one box: the other cells of that box lose d."
-- "Cross: digit, rows r1 < r2, columns c1 < c2. All cells holding d in those rows are in c1 or c2: the cells of those columns outside r1 and r2 lose d. After all digits, exchanged."
unfoldable pub step_of : Instance → Step
step_of (lone c d) = lone_step c d
step_of (place u d i) = place_step u d (unit_cell u i)
step_of (pair u i j a b) = pair_step u (unit_cell u i) (unit_cell u j) a b
step_of (pointing b d k) = locked_step (18 + b) (line_of b k) d
step_of (claiming l d k) = locked_step l (box_of l k) d
step_of (cross d r₁ r₂ c₁ c₂) = cross_step d r₁ r₂ (9 + c₁) (9 + c₂)
step_of (exchanged d c₁ c₂ r₁ r₂) = cross_step d (9 + c₁) (9 + c₂) r₁ r₂

-- ---- the instances of each pass: "The named parts run in that order, the first outermost, rising."

unfoldable pub lones : List Instance
lones = for (up_to 81) λ c. for (up_to 9) λ d. lone c d ∷ []

unfoldable pub places : List Instance
places = for (up_to 27) λ u. for (up_to 9) λ d. for (up_to 9) λ i. place u d i ∷ []

unfoldable pub pairs : List Instance
pairs = for (up_to 27) λ u. for (up_to 9) λ i. for (above i 9) λ j. for (up_to 9) λ a. for (above a 9) λ b. pair u i j a b ∷ []

unfoldable pub pointings : List Instance
pointings = for (up_to 9) λ b. for (up_to 9) λ d. for (up_to 6) λ k. pointing b d k ∷ []

-- "by unit 0 to 17, digit, and box among the three that meet the unit, all rising"
unfoldable pub claimings : List Instance
claimings = for (up_to 18) λ l. for (up_to 9) λ d. for (up_to 3) λ k. claiming l d k ∷ []

unfoldable pub crosses : List Instance
crosses =
    (for (up_to 9) λ d. for (up_to 9) λ r₁. for (above r₁ 9) λ r₂. for (up_to 9) λ c₁. for (above c₁ 9) λ c₂. cross d r₁ r₂ c₁ c₂ ∷ [])
    ++ (for (up_to 9) λ d. for (up_to 9) λ c₁. for (above c₁ 9) λ c₂. for (up_to 9) λ r₁. for (above r₁ 9) λ r₂. exchanged d c₁ c₂ r₁ r₂ ∷ [])
