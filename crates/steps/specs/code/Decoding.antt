-- Six bytes taken apart: by its kind, the instance that a step would name, and whether its parts are those of one.
use Rattle.std.specs.Prelude.{Bool, cond, ◌&&◌, List, [], ◌∷◌, ℕ, ◌+◌, ◌-◌, ◌*◌, ◌/◌, ◌%◌, eqb, leb, ltb, length, get_or}
use Rattle.std.proofs.Math.Option.{Option, none, some}
use Rattle.grid.specs.Cells.{row, col}
use Rattle.grid.specs.Units.{unit_cell}
use Rattle.steps.specs.Instances.{Instance, lone, place, pair, pointing, claiming, cross, exchanged, line_of, box_of}

abbrev pub when : Bool → Instance → Option Instance
when t x = cond t (some x) none

-- ---- tests of parts

abbrev pub is_digit : ℕ → Bool
is_digit d = ltb 0 d && ltb d 10

-- two of them, rising
abbrev pub are_digits : ℕ → ℕ → Bool
are_digits a b = is_digit a && (is_digit b && ltb a b)

-- two parts that are not there
abbrev pub no_parts : ℕ → ℕ → Bool
no_parts x y = eqb x 0 && eqb y 0

-- where in its unit a cell stands
abbrev pub place_in : ℕ → ℕ → ℕ
place_in u c = cond (ltb u 9) (col c) (cond (ltb u 18) (row c) (3 * (row c % 3) + col c % 3))

abbrev pub is_cell_of : ℕ → ℕ → Bool
is_cell_of u c = ltb c 81 && eqb (unit_cell u (place_in u c)) c

-- which of a box's six lines a line is
abbrev pub line_in : ℕ → ℕ
line_in l = cond (ltb l 9) (l % 3) (3 + l % 3)

-- which of the three boxes of line l a box is
abbrev pub box_in : ℕ → ℕ → ℕ
box_in l u = cond (ltb l 9) (u % 3) (u / 3 % 3)

-- two of the nine units from f on, rising
abbrev pub is_two : ℕ → ℕ → ℕ → Bool
is_two f u v = leb f u && (ltb u v && ltb v (f + 9))

-- ---- the tests of each kind

abbrev pub is_lone : ℕ → ℕ → ℕ → ℕ → ℕ → Bool
is_lone c d x y z = ltb c 81 && (is_digit d && (eqb x 0 && no_parts y z))

abbrev pub is_place : ℕ → ℕ → ℕ → ℕ → ℕ → Bool
is_place u d c y z = ltb u 27 && (is_digit d && (is_cell_of u c && no_parts y z))

abbrev pub is_pair : ℕ → ℕ → ℕ → ℕ → ℕ → Bool
is_pair u c e a b = ltb u 27 && (is_cell_of u c && (is_cell_of u e && (ltb c e && are_digits a b)))

abbrev pub is_pointing : ℕ → ℕ → ℕ → ℕ → ℕ → Bool
is_pointing u d l y z = leb 18 u && (ltb u 27 && (is_digit d && (eqb (line_of (u - 18) (line_in l)) l && no_parts y z)))

abbrev pub is_claiming : ℕ → ℕ → ℕ → ℕ → ℕ → Bool
is_claiming l d u y z = ltb l 18 && (is_digit d && (eqb (box_of l (box_in l u)) u && no_parts y z))

-- Cross, where the first two lines are among the nine from f on, and the others among those from h on
abbrev pub is_cross : ℕ → ℕ → ℕ → ℕ → ℕ → ℕ → ℕ → Bool
is_cross f h d u v x y = is_digit d && (is_two f u v && is_two h x y)

-- ---- the instances

abbrev pub lone_by : ℕ → ℕ → ℕ → ℕ → ℕ → Option Instance
lone_by c d x y z = when (is_lone c d x y z) (lone c (d - 1))

abbrev pub place_by : ℕ → ℕ → ℕ → ℕ → ℕ → Option Instance
place_by u d c y z = when (is_place u d c y z) (place u (d - 1) (place_in u c))

abbrev pub pair_by : ℕ → ℕ → ℕ → ℕ → ℕ → Option Instance
pair_by u c e a b = when (is_pair u c e a b) (pair u (place_in u c) (place_in u e) (a - 1) (b - 1))

abbrev pub pointing_by : ℕ → ℕ → ℕ → ℕ → ℕ → Option Instance
pointing_by u d l y z = when (is_pointing u d l y z) (pointing (u - 18) (d - 1) (line_in l))

abbrev pub claiming_by : ℕ → ℕ → ℕ → ℕ → ℕ → Option Instance
claiming_by l d u y z = when (is_claiming l d u y z) (claiming l (d - 1) (box_in l u))

abbrev pub cross_by : ℕ → ℕ → ℕ → ℕ → ℕ → Option Instance
cross_by d u v x y = when (is_cross 0 9 d u v x y) (cross (d - 1) u v (x - 9) (y - 9))

abbrev pub exchanged_by : ℕ → ℕ → ℕ → ℕ → ℕ → Option Instance
exchanged_by d u v x y = when (is_cross 9 0 d u v x y) (exchanged (d - 1) (u - 9) (v - 9) x y)

-- by the kind, the first byte; a kind above 6 names none
unfoldable pub named_by : ℕ → ℕ → ℕ → ℕ → ℕ → ℕ → Option Instance
named_by k p q r s t =
    get_or (lone_by p q r s t ∷ place_by p q r s t ∷ pair_by p q r s t ∷ pointing_by p q r s t ∷ claiming_by p q r s t ∷ cross_by p q r s t ∷ exchanged_by p q r s t ∷ []) k none

-- the six bytes from n on, where there are six
unfoldable pub named_at : List ℕ → ℕ → Option Instance
named_at bs n =
    cond (leb (n + 6) (length bs)) (named_by (get_or bs n 0) (get_or bs (n + 1) 0) (get_or bs (n + 2) 0) (get_or bs (n + 3) 0) (get_or bs (n + 4) 0) (get_or bs (n + 5) 0)) none
