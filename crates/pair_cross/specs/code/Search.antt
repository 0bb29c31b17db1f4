-- The lines of a frame as the search keeps them, nine sets of places: they tell which two lines are to be asked, and lose what the board loses.
use Rattle.std.specs.Prelude.{◌≡◌, List, map, ℕ}
use Rattle.std.specs.Int.Bits.{bit_and}
use Rattle.candidates.specs.Masks.{minus, union}
use Rattle.steps.specs.Boards.{at}
use Rattle.steps.specs.Loops.{each, up_to}
use Rattle.lanes.specs.code.Lanes.{doors_of, nines}
use Rattle.pair_cross.specs.code.Twos.{Framed, line_masks}
use Rattle.pair_cross.specs.code.Lively.{tally_of, any_hot}
use Rattle.pair_cross.specs.declared.twos.Frame.{Frame}

-- all places, if any line is hot
abbrev pub heat_of : List ℕ → ℕ
heat_of nine = any_hot (at nine) (tally_of (at nine)).twice

-- what the lines hold where their doors are open
unfoldable pub open_held : List ℕ → List ℕ → ℕ
open_held held doors = each (λ l k. union k (bit_and (at held l) (at doors l))) (up_to 9) 0

-- the lines without these places where their doors are open
unfoldable pub lines_left : List ℕ → List ℕ → ℕ → List ℕ
lines_left held doors lost = map (λ l. minus (at held l) (bit_and (at doors l) lost)) (up_to 9)

-- n are the lines of the masks, with their heat, and q the doors of the givens
pub record Seen (g m : List ℕ) (F : Frame) (q n : List ℕ) (h : ℕ) : Type 0 where
  pub framed : Framed F
  pub doors : q ≡ nines (line_masks (doors_of g) F)
  pub held : n ≡ nines (line_masks m F)
  pub heat : h ≡ heat_of n
