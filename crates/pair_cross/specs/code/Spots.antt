-- The rows or columns by digits: a lane for each digit, whose lines are the places of the rows or columns that hold it.
use Rattle.std.specs.Prelude.{◌≡◌, cond, List, map, ℕ, ◌+◌, ◌*◌, ◌<◌, eqb, set}
use Rattle.std.specs.Int.Bits.{bit_and}
use Rattle.candidates.specs.Masks.{union, place_mask}
use Rattle.steps.specs.Boards.{at}
use Rattle.steps.specs.Loops.{each, up_to}
use Rattle.lanes.specs.code.Lanes.{lane_at, Alike, Skips}
use Rattle.pair_cross.specs.code.Twos.{frame_taken}
use Rattle.pair_cross.specs.declared.twos.Frame.TheVariants.{Lines}

-- the places of a lane that hold the digit of a mask with one digit
unfoldable pub spots_of : List ℕ → ℕ → ℕ → ℕ
spots_of p l one = each (λ i k. union k (cond (eqb (bit_and (lane_at p l i) one) 0) 0 (place_mask i))) (up_to 9) 0

-- the same for each digit
unfoldable pub spot_sets : List ℕ → ℕ → List ℕ
spot_sets p l = map (λ d. spots_of p l (place_mask d)) (up_to 16)

-- the open places of nine lines from lane `first` on, where q are the doors in lanes: an open door has every digit
unfoldable pub open_places : List ℕ → ℕ → List ℕ
open_places q first = map (λ l. spots_of q (first + l) 1) (up_to 9)

-- sixteen sets at the positions of a line
unfoldable pub sets_put : ℕ → List ℕ → List ℕ → List ℕ
sets_put line sets q = each (λ d l. set l (48 * line + d) (at sets d)) (up_to 16) q

-- q are the lanes of the digits, of nine lines from lane `first` on
pub record DigitLanes (p : List ℕ) (first : ℕ) (q : List ℕ) : Type 0 where
  pub spots : (l d : ℕ) → l < 9 → d < 16 → lane_at q d l ≡ spots_of p (first + l) (place_mask d)

-- all places for each digit that the mask holds
unfoldable pub places_if : ℕ → List ℕ
places_if held = map (λ d. cond (eqb (bit_and held (place_mask d)) 0) 0 511) (up_to 16)

-- ---- Cross by digits, for rows or, exchanged, for columns

-- where a set holds nothing, the turn of its digit is idle
abbrev pub CrossSkips : List ℕ → List ℕ → ℕ → List ℕ → Type 0
CrossSkips g m half due = Skips Alike (λ d. frame_taken g (Lines (9 * half) d)) due m
