-- The three ported eliminations (modules 3, 4 and 5): they look at open cells alone.
use Rattle.std.specs.Prelude.{Bool, cond, not, ◌&&◌, ◌||◌, List, ◌++◌, ℕ, ◌+◌, eqb, leb}
use Rattle.candidates.specs.Masks.{has, count, lowest, single, tail, gather}
use Rattle.grid.specs.Units.{unit, unit_cell, in_unit}
use Rattle.steps.specs.Boards.{at, is_open}
use Rattle.steps.specs.Instances.{line_of}
use Rattle.steps.specs.Loops.{each, all, up_to, above}
use Rattle.steps.specs.Steps.{lose_all}

-- an open cell that holds d
abbrev pub holds : List ℕ → List ℕ → ℕ → ℕ → Bool
holds g m d c = is_open g c && has (at m c) d

-- the places of a unit whose open cells hold d
unfoldable pub spots : List ℕ → List ℕ → ℕ → ℕ → ℕ
spots g m u d = gather (λ i. holds g m d (unit_cell u i)) 9

-- ---- naked pairs

-- "both open, equal masks of two digits"
abbrev pub is_naked_pair : List ℕ → List ℕ → ℕ → ℕ → Bool
is_naked_pair g m c e = is_open g c && is_open g e && eqb (at m c) (at m e) && eqb (count (at m c)) 2

-- "other open cells of the unit lose both"
abbrev pub naked_pair_loss : List ℕ → ℕ → ℕ → ℕ → ℕ
naked_pair_loss m c e x = cond (eqb x c || eqb x e) 0 (at m c)

unfoldable pub naked_pair_at : List ℕ → ℕ → ℕ → ℕ → List ℕ → List ℕ
naked_pair_at g u c e m = cond (is_naked_pair g m c e) (lose_all (is_open g) (unit u) (naked_pair_loss m c e) m) m

-- "rows, columns, boxes. First cell rising, second above it, .. tested when reached"
unfoldable pub naked_pairs : List ℕ → List ℕ → List ℕ
naked_pairs g m =
    each (λ u. each (λ i. each (λ j. naked_pair_at g u (unit_cell u i) (unit_cell u j)) (above i 9)) (up_to 9)) (up_to 27) m

-- ---- box-line

-- "Two or more open cells of the box hold d. All in one row": u is the box, v the row or column
abbrev pub is_box_line : List ℕ → List ℕ → ℕ → ℕ → ℕ → Bool
is_box_line g m u v d = leb 2 (count (spots g m u d)) && all (λ e. not (holds g m d e) || in_unit v e) (unit u)

-- "open cells of that row outside the box lose d"
unfoldable pub box_line_at : List ℕ → ℕ → ℕ → ℕ → List ℕ → List ℕ
box_line_at g u v d m = cond (is_box_line g m u v d) (lose_all (is_open g) (unit v) (λ e. cond (in_unit u e) 0 (single d)) m) m

-- "box, then digit. .. Then columns likewise": the box's three rows and then its three columns
unfoldable pub box_lines : List ℕ → List ℕ → List ℕ
box_lines g m = each (λ b. each (λ d. each (λ k. box_line_at g (18 + b) (line_of b k) d) (up_to 6)) (up_to 9)) (up_to 9) m

-- ---- X-wing

-- two lines, each with just two open cells that hold d, at the same places
abbrev pub is_x_wing : List ℕ → List ℕ → ℕ → ℕ → ℕ → Bool
is_x_wing g m u v d = eqb (count (spots g m u d)) 2 && eqb (spots g m u d) (spots g m v d)

-- the crossing lines at the two places of a mask; line i crosses at unit across + i
abbrev pub first_across : ℕ → ℕ → ℕ
first_across across s = across + lowest s

abbrev pub second_across : ℕ → ℕ → ℕ
second_across across s = across + lowest (tail s)

-- "for each two listed rows with equal columns, the open cells of all other rows lose d in those columns"; n are the masks when the list was made
unfoldable pub x_wing_at : List ℕ → List ℕ → ℕ → ℕ → ℕ → ℕ → List ℕ → List ℕ
x_wing_at g n across d u v m =
    cond (is_x_wing g n u v d)
    (lose_all (is_open g) (unit (first_across across (spots g n u d)) ++ unit (second_across across (spots g n u d)))
    (λ e. cond (in_unit u e || in_unit v e) 0 (single d)) m)
    m

-- "The list is not renewed between": the test reads the masks at the digit's start
unfoldable pub x_wing_digit : List ℕ → ℕ → ℕ → ℕ → List ℕ → List ℕ
x_wing_digit g lines across d m =
    each (λ r. each (λ s. x_wing_at g m across d (lines + r) (lines + s)) (above r 9)) (up_to 9) m

-- rows, "After all digits, the same with rows and columns exchanged"
unfoldable pub x_wings : List ℕ → List ℕ → List ℕ
x_wings g m = each (x_wing_digit g 9 0) (up_to 9) (each (x_wing_digit g 0 9) (up_to 9) m)
