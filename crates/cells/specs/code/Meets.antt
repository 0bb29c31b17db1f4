-- The units that meet a unit: the six lines of a box, three rows and then three columns, and the three boxes of a line; u is a unit and k one of those that meet it.
-- A digit that the unit holds in one of them alone is lost by that one's other cells.
use Rattle.std.specs.Prelude.{cond, List, [], ◌∷◌, ℕ, ◌+◌, ◌-◌, ◌/◌, ◌%◌, eqb, ltb, get_or}
use Rattle.candidates.specs.Masks.{minus, place_mask}
use Rattle.steps.specs.Boards.{is_open}
use Rattle.steps.specs.Instances.{line_of, box_of}
use Rattle.steps.specs.Loops.{each, up_to}
use Rattle.cells.specs.code.Places.{lose_places}

-- how many they are
unfoldable pub meetings : ℕ → ℕ
meetings u = cond (ltb u 18) 3 6

-- the places of a unit that are in its k-th: a box's rows and columns, and a line's threes
unfoldable pub met_places : ℕ → ℕ
met_places k = get_or (7 ∷ 56 ∷ 448 ∷ 73 ∷ 146 ∷ 292 ∷ []) k 0

-- the way back: the number that u has among those that meet its k-th
unfoldable pub met_back : ℕ → ℕ → ℕ
met_back u k = cond (ltb u 9) (u % 3) (cond (ltb u 18) (3 + u % 3) (cond (ltb k 3) (u % 3) ((u - 18) / 3)))

-- the places of the k-th that are outside u
unfoldable pub outside : ℕ → ℕ → ℕ
outside u k = minus 511 (met_places (met_back u k))

-- the k-th box of a line; 27, which is no unit, past the three
unfoldable pub box_unit : ℕ → ℕ → ℕ
box_unit l k = cond (ltb k 3) (box_of l k) 27

-- the k-th line of a box; 27, which is no unit, past the boxes and lines
unfoldable pub line_unit : ℕ → ℕ → ℕ
line_unit b k = cond (ltb b 9) (cond (ltb k 6) (line_of b k) 27) 27

unfoldable pub met_unit : ℕ → ℕ → ℕ
met_unit u k = cond (ltb u 18) (box_unit u k) (line_unit (u - 18) k)

-- `held` are the places of u that hold d: where all of them are in the k-th, it loses d outside u
unfoldable pub meet_turn : List ℕ → ℕ → ℕ → ℕ → ℕ → List ℕ → List ℕ
meet_turn g u d held k m = cond (eqb (minus held (met_places k)) 0) (lose_places (is_open g) (met_unit u k) (outside u k) (place_mask d) m) m

-- the first n of them, one after the other
unfoldable pub meet_turns : List ℕ → ℕ → ℕ → ℕ → ℕ → List ℕ → List ℕ
meet_turns g u n d held m = each (meet_turn g u d held) (up_to n) m
