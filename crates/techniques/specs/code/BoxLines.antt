-- Box-line by the lines of a box, as the code goes about it; `proofs/BoxLines.antt` shows that it is the box-line of module 4.
use Rattle.std.specs.Prelude.{List, ℕ, ◌+◌}
use Rattle.std.specs.Int.Bits.{bit_and}
use Rattle.candidates.specs.Masks.{minus}
use Rattle.steps.specs.Boards.{is_open}
use Rattle.steps.specs.Loops.{each, up_to}
use Rattle.cells.specs.code.Places.{lose_places, unit_masks}
use Rattle.cells.specs.code.Meets.{met_places, outside, met_unit}
use Rattle.cells.specs.code.Unions.{joined_at, shared_of}

-- the digits that a box holds at two places or more, all of them on its k-th line; `nine` are the masks of its open cells
unfoldable pub on_line : List ℕ → ℕ → ℕ
on_line nine k = minus (bit_and (shared_of nine) 511) (joined_at nine (minus 511 (met_places k)))

-- the k-th line of the box u loses them outside the box
unfoldable pub line_turn : List ℕ → ℕ → List ℕ → ℕ → List ℕ → List ℕ
line_turn g u nine k m = lose_places (is_open g) (met_unit u k) (outside u k) (on_line nine k) m

unfoldable pub block_lines : List ℕ → ℕ → List ℕ → List ℕ → List ℕ
block_lines g u nine m = each (line_turn g u nine) (up_to 6) m

-- the box's masks are read once, before its lines lose anything
unfoldable pub block_turn : List ℕ → ℕ → List ℕ → List ℕ
block_turn g b m = block_lines g (18 + b) (unit_masks g m (18 + b)) m
