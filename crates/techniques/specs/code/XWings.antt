-- X-wing by places of the nine lines, as the code goes about it; `proofs/XWings.antt` shows that it is the X-wing of module 5.
-- The lines are the rows or the columns; line i is the place i of each line across.
use Rattle.std.specs.Prelude.{cond, List, [], ◌∷◌, map, ℕ, ◌+◌, eqb}
use Rattle.std.specs.Int.Bits.{bit_and}
use Rattle.candidates.specs.Masks.{has, minus, union, count, place_mask, lowest, tail}
use Rattle.steps.specs.Boards.{at, is_open}
use Rattle.steps.specs.Loops.{each, up_to, above}
use Rattle.cells.specs.code.Places.{lose_places, unit_masks, spots_in, line_spots, all_but}
use Rattle.techniques.specs.declared.x_wings.Lines.{Lines}
use Rattle.techniques.specs.declared.x_wings.Lines.TheVariants as lines_of

-- the unit of the first line, and of the first line across
abbrev pub lines_from : Lines → ℕ
lines_from lines_of.Rows = 0
lines_from lines_of.Columns = 9

abbrev pub across_from : Lines → ℕ
across_from lines_of.Rows = 9
across_from lines_of.Columns = 0

-- lines i and j hold d at the places s, two of them, and t: where these are the same, the two lines across lose d at all other lines
unfoldable pub wing_at : List ℕ → Lines → ℕ → ℕ → ℕ → ℕ → ℕ → List ℕ → List ℕ
wing_at g lines d i j s t m =
    cond (eqb s t)
    (lose_places (is_open g) (across_from lines + lowest (tail s)) (all_but i j) (place_mask d)
    (lose_places (is_open g) (across_from lines + lowest s) (all_but i j) (place_mask d) m))
    m

-- the first line is i
unfoldable pub wings_from : List ℕ → Lines → ℕ → List ℕ → ℕ → List ℕ → List ℕ
wings_from g lines d list i m = cond (eqb (count (at list i)) 2) (each (λ j. wing_at g lines d i j (at list i) (at list j)) (above i 9) m) m

unfoldable pub wings_in : List ℕ → Lines → ℕ → List ℕ → List ℕ → List ℕ
wings_in g lines d list m = each (wings_from g lines d list) (up_to 9) m

-- the list is made once, at the digit's start
unfoldable pub wing_digit : List ℕ → Lines → ℕ → List ℕ → List ℕ
wing_digit g lines d m = each (wings_from g lines d (line_spots g m (lines_from lines) d)) (up_to 9) m

-- ---- which lines and digits need a look: those that are held at just two places

-- the digits that two of the masks at these places hold and no third, where those before hold `once`, two of them `twice` and three of them `more`
unfoldable pub twice_from : List ℕ → List ℕ → ℕ → ℕ → ℕ → ℕ
twice_from nine [] once twice more = minus twice more
twice_from nine (i ∷ is) once twice more =
    twice_from nine is (union once (at nine i)) (union twice (bit_and once (at nine i))) (union more (bit_and twice (at nine i)))

unfoldable pub twice_of : List ℕ → ℕ
twice_of nine = twice_from nine (up_to 9) 0 0 0

-- for each line
unfoldable pub twice_sets : List ℕ → List ℕ → Lines → List ℕ
twice_sets g m lines = map (λ i. twice_of (unit_masks g m (lines_from lines + i))) (up_to 9)

-- the places of a line that hold d, if its set has d
abbrev pub spots_where : List ℕ → List ℕ → ℕ → ℕ → ℕ → ℕ
spots_where g m u d set = cond (has set d) (spots_in (unit_masks g m u) d) 0

-- for each line
unfoldable pub two_spots : List ℕ → List ℕ → Lines → ℕ → List ℕ → List ℕ
two_spots g m lines d sets = map (λ i. spots_where g m (lines_from lines + i) d (at sets i)) (up_to 9)
