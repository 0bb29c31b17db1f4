-- The cells of a unit by their places 0 to 8: which of them hold a digit, and losing digits at some of them.
use Rattle.std.specs.Prelude.{Bool, cond, ◌&&◌, List, map, ℕ, ◌+◌, ltb}
use Rattle.std.specs.Int.Bits.{bit_and}
use Rattle.candidates.specs.Masks.{has, minus, union, single, gather}
use Rattle.grid.specs.Units.{unit_cell}
use Rattle.steps.specs.Boards.{at, is_open}
use Rattle.steps.specs.Loops.{each, select, up_to}
use Rattle.steps.specs.Steps.{lose_at}

-- 81, which is no cell, has no mask and is not open
abbrev pub mask_at : List ℕ → ℕ → ℕ
mask_at m c = cond (ltb c 81) (at m c) 0

abbrev pub open_at : List ℕ → ℕ → Bool
open_at g c = ltb c 81 && is_open g c

abbrev pub lose_in : (ℕ → Bool) → ℕ → ℕ → List ℕ → List ℕ
lose_in free c k m = cond (ltb c 81) (lose_at free c k m) m

-- the cells at these places of a unit lose the digits of k
unfoldable pub lose_places : (ℕ → Bool) → ℕ → ℕ → ℕ → List ℕ → List ℕ
lose_places free u places k m = each (λ i m. cond (has places i) (lose_in free (unit_cell u i) k m) m) (up_to 9) m

-- the masks of a unit's open cells, by place; 0 for the others
abbrev pub open_mask : List ℕ → List ℕ → ℕ → ℕ
open_mask g m c = cond (open_at g c) (mask_at m c) 0

unfoldable pub unit_masks : List ℕ → List ℕ → ℕ → List ℕ
unit_masks g m u = map (λ i. open_mask g m (unit_cell u i)) (up_to 9)

-- the masks of a unit's cells, clue cells too
unfoldable pub all_masks : List ℕ → ℕ → List ℕ
all_masks m u = map (λ i. mask_at m (unit_cell u i)) (up_to 9)

-- the nine places that a mask holds, rising
abbrev pub places_in : ℕ → List ℕ
places_in x = select (has x) (up_to 9)

-- the places of nine masks that hold d
unfoldable pub spots_in : List ℕ → ℕ → ℕ
spots_in nine d = gather (λ i. has (at nine i) d) 9

-- the places of a unit that hold d, clue cells too
unfoldable pub held_places : List ℕ → ℕ → ℕ → ℕ
held_places m u d = spots_in (all_masks m u) d

-- for each of nine units from f on, the places whose open cells hold d
unfoldable pub line_spots : List ℕ → List ℕ → ℕ → ℕ → List ℕ
line_spots g m f d = map (λ i. spots_in (unit_masks g m (f + i)) d) (up_to 9)

-- all places but two
abbrev pub all_but : ℕ → ℕ → ℕ
all_but i j = minus (minus 511 (single i)) (single j)

-- all digits for an open cell, none for another
abbrev pub door_at : List ℕ → ℕ → ℕ
door_at g c = cond (is_open g c) 511 0

-- what the open cells hold
unfoldable pub loose_digits : List ℕ → List ℕ → ℕ
loose_digits g m = each (λ c k. union k (bit_and (at m c) (door_at g c))) (up_to 81) 0
