-- Masks of which no pass can remove anything, as a quick test finds them: no cell holds two digits, and the open cells hold none, or every unit has all nine.
use Rattle.std.specs.Prelude.{Bool, ◌&&◌, ◌||◌, List, ℕ, eqb, leb}
use Rattle.std.specs.Int.Bits.{bit_and}
use Rattle.candidates.specs.Masks.{minus, union, tail}
use Rattle.steps.specs.Boards.{at}
use Rattle.steps.specs.Loops.{each, up_to}
use Rattle.cells.specs.code.Places.{loose_digits}
use Rattle.cells.specs.code.Unions.{joined}
use Rattle.lanes.specs.code.Lanes.{lane_masks, lane_of}

-- what cells hold beside their lowest digit
unfoldable pub beside_one : List ℕ → ℕ
beside_one m = each (λ c k. union k (tail (bit_and (at m c) 511))) (up_to 81) 0

-- the digits that no cell of some unit holds, read off the lanes p
unfoldable pub lacked_in : List ℕ → ℕ
lacked_in p = each (λ u k. union k (minus 511 (joined (lane_masks p (lane_of u))))) (up_to 27) 0

-- of masks m with so many candidates, in the lanes p; with more candidates than cells there is no need to look
unfoldable pub is_over : ℕ → List ℕ → List ℕ → List ℕ → Bool
is_over left g m p = leb left 81 && (eqb (beside_one m) 0 && (eqb (loose_digits g m) 0 || eqb (lacked_in p) 0))
