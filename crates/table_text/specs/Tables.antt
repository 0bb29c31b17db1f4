-- The unit table and the peer table as Rattle constants (document 02, F-12), as bytes: "one row a line", "each line ended by byte 10 and nothing else".
use Rattle.std.specs.Prelude.{List, [], ◌∷◌, ◌++◌, map, ℕ}
use Rattle.output.specs.Decimals.{decimal}
use Rattle.grid.specs.Cells.{cells, peer_table}
use Rattle.grid.specs.Units.{in_unit}
use Rattle.steps.specs.Loops.{for, select, up_to}

-- each number after a comma and a space
unfoldable pub later : List ℕ → List ℕ
later ns = for ns λ n. 44 ∷ 32 ∷ decimal n

-- "`0, 1, 2, 3, 4, 5, 6, 7, 8`": the first number with nothing before it
unfoldable pub numbers : List ℕ → List ℕ
numbers [] = []
numbers (n ∷ ns) = decimal n ++ later ns

-- "rows as `[0, 1, 2, 3, 4, 5, 6, 7, 8],`"
unfoldable pub row_line : List ℕ → List ℕ
row_line ns = (91 ∷ numbers ns) ++ (93 ∷ 44 ∷ 10 ∷ [])

-- a first line, the rows, "then `];`"
unfoldable pub table_lines : List ℕ → List (List ℕ) → List ℕ
table_lines header rows = (header ++ for rows row_line) ++ (93 ∷ 59 ∷ 10 ∷ [])

-- "`pub const UNITS: [[u8; 9]; 27] = [`"
abbrev pub units_header : List ℕ
units_header = 112 ∷ 117 ∷ 98 ∷ 32 ∷ 99 ∷ 111 ∷ 110 ∷ 115 ∷ 116 ∷ 32 ∷ 85 ∷ 78 ∷ 73 ∷ 84 ∷ 83 ∷ 58 ∷ 32 ∷ 91 ∷ 91 ∷ 117 ∷ 56 ∷ 59 ∷ 32 ∷ 57 ∷ 93 ∷ 59 ∷ 32 ∷ 50 ∷ 55 ∷ 93 ∷ 32 ∷ 61 ∷ 32 ∷ 91 ∷ 10 ∷ []

-- "`pub const PEERS: [[u8; 20]; 81] = [`"
abbrev pub peers_header : List ℕ
peers_header = 112 ∷ 117 ∷ 98 ∷ 32 ∷ 99 ∷ 111 ∷ 110 ∷ 115 ∷ 116 ∷ 32 ∷ 80 ∷ 69 ∷ 69 ∷ 82 ∷ 83 ∷ 58 ∷ 32 ∷ 91 ∷ 91 ∷ 117 ∷ 56 ∷ 59 ∷ 32 ∷ 50 ∷ 48 ∷ 93 ∷ 59 ∷ 32 ∷ 56 ∷ 49 ∷ 93 ∷ 32 ∷ 61 ∷ 32 ∷ 91 ∷ 10 ∷ []

-- the rows by their rule: the cells of each unit, rising
unfoldable pub unit_rows : List (List ℕ)
unit_rows = map (λ u. select (in_unit u) cells) (up_to 27)

-- both tables
unfoldable pub tables_text : List ℕ
tables_text = table_lines units_header unit_rows ++ table_lines peers_header peer_table
