-- The 81 cells, and which of them see each other. A cell is its number, 0 to 80.
use Rattle.std.specs.Prelude.{Bool, not, ◌&&◌, ◌||◌, List, map, ℕ, ◌+◌, ◌*◌, ◌/◌, ◌%◌, eqb}
use Rattle.grid.specs.Lists.{range, select}

-- "Cell = 9 times row + column, both 0 to 8."
abbrev pub cell : ℕ → ℕ → ℕ
cell r k = 9 * r + k

abbrev pub row : ℕ → ℕ
row c = c / 9

abbrev pub col : ℕ → ℕ
col c = c % 9

-- "Box = 3 times (row / 3) + column / 3."
abbrev pub box : ℕ → ℕ
box c = 3 * (row c / 3) + col c / 3

-- the two cells share a row, a column or a box
abbrev pub aligned : ℕ → ℕ → Bool
aligned a b = eqb (row a) (row b) || eqb (col a) (col b) || eqb (box a) (box b)

-- "Two cells see each other if they are peers": a cell does not see itself
abbrev pub sees : ℕ → ℕ → Bool
sees a b = not (eqb a b) && aligned a b

-- all cells, rising
unfoldable pub cells : List ℕ
cells = range 81 0

-- "Peers of a cell: the 20 others that share a unit with it", rising
unfoldable pub peers : ℕ → List ℕ
peers c = select (sees c) cells

-- "a peer table of 1,620 cell numbers, 81 rows of 20, rising"
unfoldable pub peer_table : List (List ℕ)
peer_table = map peers cells
