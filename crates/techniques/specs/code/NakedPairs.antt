-- Naked pairs by places of a unit, as the code goes about them; `proofs/NakedPairs.antt` shows that they are the naked pairs of module 3.
use Rattle.std.specs.Prelude.{Bool, Some, None, cond, ◌&&◌, ◌||◌, List, [], ◌∷◌, map, ℕ, eqb, leb}
use Rattle.std.specs.declared.option.Option.{Option}
use Rattle.candidates.specs.Masks.{count}
use Rattle.grid.specs.Units.{unit_cell}
use Rattle.steps.specs.Boards.{at, is_open}
use Rattle.steps.specs.Loops.{each, all, up_to, above}
use Rattle.cells.specs.code.Places.{lose_places, open_mask, all_but}

-- one mask of two digits; a cell that is not open counts as empty
abbrev pub is_pair : ℕ → ℕ → Bool
is_pair a b = eqb (count a) 2 && eqb a b

unfoldable pub pair_at : List ℕ → ℕ → ℕ → ℕ → List ℕ → List ℕ
pair_at g u i j m =
    cond (is_pair (open_mask g m (unit_cell u i)) (open_mask g m (unit_cell u j)))
    (lose_places (is_open g) u (all_but i j) (open_mask g m (unit_cell u i)) m)
    m

unfoldable pub unit_pairs : List ℕ → ℕ → List ℕ → List ℕ
unit_pairs g u m = each (λ i. each (pair_at g u i) (above i 9)) (up_to 9) m

-- ---- the search for a pair

-- the place that a search found; 9 where it found none
abbrev pub place_of : Option ℕ → ℕ
place_of None = 9
place_of (Some j) = j

-- the first of these places of nine masks that has the mask x; 9 where none does
unfoldable pub twin_in : List ℕ → ℕ → List ℕ → ℕ
twin_in nine x [] = 9
twin_in nine x (j ∷ js) = cond (eqb (at nine j) x) j (twin_in nine x js)

-- the first place after the i-th that has its mask
unfoldable pub twin_of : List ℕ → ℕ → ℕ
twin_of nine i = twin_in nine (at nine i) (above i 9)

-- the same for a mask of two digits; 9 for any other
unfoldable pub pair_of : List ℕ → ℕ → ℕ
pair_of nine i = cond (eqb (count (at nine i)) 2) (twin_of nine i) 9

-- ---- which units need a look

-- a mask of two digits, or none
abbrev pub two_of : ℕ → ℕ
two_of x = cond (eqb (count x) 2) x 0

-- the masks of the open cells that have two digits; 0 for the others
unfoldable pub pair_masks : List ℕ → List ℕ → List ℕ
pair_masks g m = map (λ c. cond (is_open g c) (two_of (at m c)) 0) (up_to 81)

-- no two of nine masks are the same, but for empty ones
unfoldable pub no_twins : List ℕ → Bool
no_twins nine = all (λ i. eqb (at nine i) 0 || leb 9 (twin_of nine i)) (up_to 9)
