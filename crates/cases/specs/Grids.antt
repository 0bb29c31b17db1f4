-- The grids of the published cases, and of document 02's: lists of 81 clue numbers, 0 where a cell is open.
use Rattle.std.specs.Prelude.{List, [], ◌∷◌, map, ℕ, ◌-◌, ◌/◌, ◌%◌, ◌^◌, ℤ, pos, negsuc, replicate, set}
use Rattle.grid.specs.Fillings.{number_at}
use Rattle.steps.specs.Loops.{for, up_to}

-- the nine clues of a row, written as one decimal number
abbrev pub row_of : ℕ → List ℤ
row_of n = map (λ k. pos (n / 10 ^ (8 - k) % 10)) (up_to 9)

-- the rows from the top
unfoldable pub grid_of : List ℕ → List ℤ
grid_of rows = for rows row_of

abbrev pub open_rows : ℕ → List ℕ
open_rows n = replicate n 0

-- "Grid A, rows: 123456789, 456789123, 789123456, 231564897, 564897231, 897231564, 312645978, 645978312, 978312645."
unfoldable pub grid_a : List ℤ
grid_a =
    grid_of
    (123456789 ∷ 456789123 ∷ 789123456 ∷ 231564897 ∷ 564897231 ∷ 897231564 ∷ 312645978 ∷ 645978312 ∷ 978312645 ∷ [])

-- "P1 81 dots"
unfoldable pub p1 : List ℤ
p1 = grid_of (open_rows 9)

-- "P4 clue -1 at cell 0", and "Clue 10 at cell 80": all other cells open
unfoldable pub p4_low : List ℤ
p4_low = set p1 0 (negsuc 0)

unfoldable pub p4_high : List ℤ
p4_high = set p1 80 (pos 10)

-- "P5 A with cell 0 open"
unfoldable pub p5 : List ℤ
p5 = set grid_a 0 (pos 0)

-- "P6 .. cells 0 and 1 exchanged"
unfoldable pub exchanged : List ℤ
exchanged = set (set grid_a 0 (number_at grid_a 1)) 1 (number_at grid_a 0)

-- "P7 A with cells 0, 1, 27, 28, 54, 55 open"
unfoldable pub p7 : List ℤ
p7 =
    grid_of
    (003456789 ∷ 456789123 ∷ 789123456 ∷ 001564897 ∷ 564897231 ∷ 897231564 ∷ 002645978 ∷ 645978312 ∷ 978312645 ∷ [])

-- "P8 row 0 `...456789`, row 1 `3........`, rest open"
unfoldable pub p8 : List ℤ
p8 = grid_of (000456789 ∷ 300000000 ∷ open_rows 7)

-- "P10 row 1 `456......`, row 2 `789......`, rest open"
unfoldable pub p10 : List ℤ
p10 = grid_of (000000000 ∷ 456000000 ∷ 789000000 ∷ open_rows 6)

-- "P11 clue 5 at cells 0 and 1"
unfoldable pub p11 : List ℤ
p11 = grid_of (550000000 ∷ open_rows 8)

-- document 02, F-5: row 0 `...456789`, rest open
unfoldable pub claimed : List ℤ
claimed = grid_of (000456789 ∷ open_rows 8)

-- document 02, F-13: rows `..3.19...`, `8..36249.`, `.....8...`, `......63.`, `....9....`, `.8..2...9`, `14.......`, `5..2....4`, `.329....7`
unfoldable pub clothed : List ℤ
clothed =
    grid_of
    (003019000 ∷ 800362490 ∷ 000008000 ∷ 000000630 ∷ 000090000 ∷ 080020009 ∷ 140000000 ∷ 500200004 ∷ 032900007 ∷ [])

-- A with cells 1 and 9 open
unfoldable pub two_open : List ℤ
two_open = set (set grid_a 1 (pos 0)) 9 (pos 0)
