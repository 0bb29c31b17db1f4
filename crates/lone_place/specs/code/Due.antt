-- Where Lone and Place may lose anything, by what the masks of a unit hold together.
use Rattle.std.specs.Prelude.{◌≡◌, ◌≢◌, Bool, true, false, cond, ℕ, ◌+◌, ◌*◌, ◌/◌, ◌<◌, eqb}
use mathlib.Core.List.{List, Memᴰ, map}
use Rattle.std.specs.Int.Bits.{bit_and}
use Rattle.candidates.specs.Masks.{has, minus, union, count, single, tail, gather}
use Rattle.grid.specs.Cells.{row, col, box, peers}
use Rattle.grid.specs.Units.{unit_cell}
use Rattle.steps.specs.Boards.{at}
use Rattle.steps.specs.Loops.{each, up_to}
use Rattle.cells.specs.code.Places.{unit_masks}
use Rattle.cells.specs.code.Unions.{joined, shared_of, several_of}
use Rattle.lanes.specs.code.Lanes.{lane_masks, SameOn, lane_of}
use Rattle.lone_place.specs.code.Turns.{place_digit, place_unit}

-- ---- Lone

-- what a cell's row, its column and its box have together, each by f
abbrev pub around : (ℕ → ℕ) → ℕ → ℕ
around f c = union (union (f (row c)) (f (9 + col c))) (f (18 + box c))

-- the digits that two places of each lane hold
unfoldable pub shared_lanes : List ℕ → List ℕ
shared_lanes p = map (λ l. shared_of (lane_masks p l)) (up_to 48)

-- every digit that two cells of a unit hold is in its lane's set
pub record Covers (s m : List ℕ) : Type 0 where
  pub holds : (u i j d : ℕ) → u < 27 → i < 9 → j < 9 → d < 9 → i ≢ j → has (at m (unit_cell u i)) d ≡ true → has (at m (unit_cell u j)) d ≡ true → has (at s (lane_of u)) d ≡ true

-- what two cells of its row, its column or its box hold, for the cells of a row
unfoldable pub near_row : List ℕ → ℕ → List ℕ
near_row sets r = map (λ k. union (union (at sets r) (at sets (16 + k))) (at sets (32 + 3 * (r / 3) + k / 3))) (up_to 16)

-- every digit that the cell and a peer of it hold is among these
pub record Near (m : List ℕ) (c near : ℕ) : Type 0 where
  pub holds : (e d : ℕ) → Memᴰ e (peers c) → d < 9 → has (at m c) d ≡ true → has (at m e) d ≡ true → has near d ≡ true

pub record NearRow (m : List ℕ) (r : ℕ) (near : List ℕ) : Type 0 where
  pub cell : (k : ℕ) → k < 9 → Near m (9 * r + k) (at near k)

-- a mask that has at most one digit, and none that is not among these
abbrev pub lone_due : ℕ → ℕ → Bool
lone_due x near = eqb (count (union (tail x) (minus x near))) 0

abbrev pub due_flag : ℕ → ℕ → ℕ
due_flag x near = cond (lone_due (bit_and x 511) near) 1 0

-- 0 where no cell of the row is due
unfoldable pub due_row : List ℕ → List ℕ → ℕ → ℕ
due_row m near r = each (λ k due. union due (due_flag (at m (9 * r + k)) (at near k))) (up_to 9) 0

-- what the open cells of a unit hold
abbrev pub loose_in : List ℕ → List ℕ → ℕ → ℕ
loose_in g m u = joined (unit_masks g m u)

-- what those of the cell's row, its column and its box hold
abbrev pub loose_near : List ℕ → List ℕ → ℕ → ℕ
loose_near g m c = around (loose_in g m) c

-- the digits whose instances may lose anything: those that the cell holds, or, where it holds none, those that an open cell near it holds
abbrev pub lone_held : List ℕ → List ℕ → ℕ → ℕ
lone_held g m c = cond (eqb (bit_and (at m c) 511) 0) (loose_near g m c) (bit_and (at m c) 511)

-- where nothing was due, the masks are as they were
pub record Kept (any : Bool) (m n : List ℕ) : Type 0 where
  pub is : any ≡ false → n ≡ m

-- ---- Place

-- the places whose instances pass their test, where these hold the digit
unfoldable pub turns_of : ℕ → ℕ
turns_of held = gather (λ i. eqb (minus held (single i)) 0) 9

-- not held twice, and not held by masks alone that hold nothing else
unfoldable pub due_of : List ℕ → ℕ
due_of nine = minus (minus 511 (shared_of nine)) (minus (joined nine) (several_of nine))

-- what is due of a lane: nothing where no open cell of it holds anything
abbrev pub place_due : List ℕ → ℕ → ℕ
place_due nine free = cond (eqb free 0) 0 (due_of nine)

-- of sixteen lanes from the first one on
unfoldable pub place_sets : List ℕ → List ℕ → ℕ → List ℕ
place_sets p free first = map (λ k. place_due (lane_masks p (first + k)) (at free k)) (up_to 16)

abbrev pub place_turn_of : List ℕ → ℕ → ℕ → List ℕ → List ℕ
place_turn_of g f k = place_unit g (9 * f + k)

-- the units of a family
unfoldable pub place_family : List ℕ → ℕ → List ℕ → List ℕ
place_family g f m = each (place_turn_of g f) (up_to 9) m

-- the instances of a digit that is not in the set lose nothing
pub record Spares (g : List ℕ) (u due : ℕ) (m : List ℕ) : Type 0 where
  pub idle : (d : ℕ) → d < 9 → has due d ≡ false → place_digit g u d m ≡ m

-- the sets of a family's units, each as long as its unit stays as it is in m
pub record PlaceSpares (g m : List ℕ) (f : ℕ) (due : List ℕ) : Type 0 where
  pub of : (k : ℕ) → k < 9 → (n : List ℕ) → SameOn (9 * f + k) n m → Spares g (9 * f + k) (at due k) n
