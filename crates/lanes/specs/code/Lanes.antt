-- The masks of a board in lanes: place i of lane l stands at 48 i + l. The rows are lanes 0 to 8, the columns 16 to 24, the boxes 32 to 40; the other lanes hold nothing.
use Rattle.std.specs.Prelude.{◌≡◌, cond, List, map, ℕ, ◌+◌, ◌*◌, ◌/◌, ◌%◌, ◌<◌, ltb, length, get_or, set}
use Rattle.std.specs.Int.Bits.{bit_and}
use Rattle.candidates.specs.Masks.{has, union}
use Rattle.grid.specs.Units.{unit_cell}
use Rattle.steps.specs.Boards.{at}
use Rattle.steps.specs.Loops.{each, up_to}
use Rattle.cells.specs.code.Places.{mask_at, door_at}

-- the unit of a lane; 27, which is none, for a lane that holds nothing
unfoldable pub unit_on : ℕ → ℕ
unit_on l = cond (ltb (l % 16) 9) (9 * (l / 16) + l % 16) 27

-- the lane of a unit
abbrev pub lane_of : ℕ → ℕ
lane_of u = 16 * (u / 9) + u % 9

-- the cell at a position; 81, which is none, in a lane that holds nothing
unfoldable pub cell_at : ℕ → ℕ
cell_at j = unit_cell (unit_on (j % 48)) (j / 48)

-- the nine digits of its mask
abbrev pub laid_at : List ℕ → ℕ → ℕ
laid_at m j = bit_and (mask_at m (cell_at j)) 511

unfoldable pub laid : List ℕ → List ℕ
laid m = map (laid_at m) (up_to 432)

-- lanes of some masks
pub record Laid (p : List ℕ) : Type 0 where
  pub of : List ℕ
  pub is : p ≡ laid of

-- lanes of masks that are those of m below cell c
pub record Partly (m : List ℕ) (c : ℕ) (p : List ℕ) : Type 0 where
  pub of : List ℕ
  pub size : length of ≡ 81
  pub is : p ≡ laid of
  pub below : (e : ℕ) → e < c → at of e ≡ at m e

-- ---- where a cell stands: in its row's lane, its column's and its box's

abbrev pub row_spot : ℕ → ℕ
row_spot c = 48 * (c % 9) + c / 9

abbrev pub col_spot : ℕ → ℕ
col_spot c = 48 * (c / 9) + 16 + c % 9

abbrev pub box_spot : ℕ → ℕ
box_spot c = 48 * (3 * (c / 9 % 3) + c % 9 % 3) + 32 + 3 * (c / 9 / 3) + c % 9 / 3

abbrev pub put_at : ℕ → ℕ → List ℕ → List ℕ
put_at c x p = set (set (set p (row_spot c) x) (col_spot c) x) (box_spot c) x

-- ---- open cells

-- all digits where the cell is open, none where it is not
unfoldable pub doors_of : List ℕ → List ℕ
doors_of g = map (door_at g) (up_to 81)

-- what place i of lane l holds
abbrev pub lane_at : List ℕ → ℕ → ℕ → ℕ
lane_at p l i = at p (48 * i + l)

-- what the places of a lane hold whose doors are open, where q are the doors in lanes
unfoldable pub loose_of : List ℕ → List ℕ → ℕ → ℕ
loose_of p q l = each (λ i k. union k (bit_and (lane_at p l i) (lane_at q l i))) (up_to 9) 0

-- of sixteen lanes from the first one on
unfoldable pub loose_sets : List ℕ → List ℕ → ℕ → List ℕ
loose_sets p q first = map (λ k. loose_of p q (first + k)) (up_to 16)

unfoldable pub joined_sets : List ℕ → ℕ
joined_sets sets = each (λ i k. union k (at sets i)) (up_to 16) 0

-- ---- the masks of a lane

unfoldable pub lane_masks : List ℕ → ℕ → List ℕ
lane_masks p l = map (lane_at p l) (up_to 9)

-- the nine digits of nine masks
unfoldable pub nines : List ℕ → List ℕ
nines masks = map (λ i. bit_and (at masks i) 511) (up_to 9)

-- ---- turns that are passed over

-- the masks n of a unit are those of m
pub record SameOn (u : ℕ) (n m : List ℕ) : Type 0 where
  pub at : (i : ℕ) → i < 9 → get_or n (unit_cell u i) 0 ≡ get_or m (unit_cell u i) 0

-- the masks n hold the digit where those of m do
pub record Alike (d : ℕ) (n m : List ℕ) : Type 0 where
  pub at : (c : ℕ) → has (get_or n c 0) d ≡ has (get_or m c 0) d

-- where the set of turn k holds nothing, the turn is idle, as long as what it is tested by stays as it is in m
pub record Skips (Same : ℕ → List ℕ → List ℕ → Type 0) (turn : ℕ → List ℕ → List ℕ) (due m : List ℕ) : Type 0 where
  pub idle : (k : ℕ) → k < 9 → get_or due k 0 ≡ 0 → (n : List ℕ) → Same k n m → turn k n ≡ n
