-- How lines are laid out: "each line ended by byte 10".
use Rattle.std.specs.Prelude.{cond, List, [], ◌∷◌, ◌++◌, map, ℕ, suc, eqb, ℤ, pos, negsuc, nat_abs}
use Rattle.std.proofs.Math.Option.{Option, none, some}
use Rattle.stops.specs.Stops.{row_of}
use Rattle.stops.specs.declared.Stop.{Stop}
use Rattle.candidates.specs.Masks.{low_nine, count}
use Rattle.candidates.specs.Sets.{only_of}
use Rattle.grid.specs.Cells.{cells}
use Rattle.steps.specs.Boards.{at}
use Rattle.output.specs.Decimals.{digit_byte, decimal}

-- a label, what stands after it, and byte 10
unfoldable pub line_of : List ℕ → List ℕ → List ℕ
line_of label rest = (label ++ rest) ++ (10 ∷ [])

-- "clues "
abbrev pub clues_label : List ℕ
clues_label = 99 ∷ 108 ∷ 117 ∷ 101 ∷ 115 ∷ 32 ∷ []

-- "reported "
abbrev pub reported_label : List ℕ
reported_label = 114 ∷ 101 ∷ 112 ∷ 111 ∷ 114 ∷ 116 ∷ 101 ∷ 100 ∷ 32 ∷ []

-- "sweeps "
abbrev pub sweeps_label : List ℕ
sweeps_label = 115 ∷ 119 ∷ 101 ∷ 101 ∷ 112 ∷ 115 ∷ 32 ∷ []

-- "removed "
abbrev pub removed_label : List ℕ
removed_label = 114 ∷ 101 ∷ 109 ∷ 111 ∷ 118 ∷ 101 ∷ 100 ∷ 32 ∷ []

-- "verdict "
abbrev pub verdict_label : List ℕ
verdict_label = 118 ∷ 101 ∷ 114 ∷ 100 ∷ 105 ∷ 99 ∷ 116 ∷ 32 ∷ []

-- "line "
abbrev pub grid_label : List ℕ
grid_label = 108 ∷ 105 ∷ 110 ∷ 101 ∷ 32 ∷ []

-- "refused "
abbrev pub refused_label : List ℕ
refused_label = 114 ∷ 101 ∷ 102 ∷ 117 ∷ 115 ∷ 101 ∷ 100 ∷ 32 ∷ []

-- ---- the line of a grid

-- a cell's only digit, else `.`
abbrev pub only_byte : Option ℤ → ℕ
only_byte none = 46
only_byte (some z) = digit_byte (nat_abs z)

-- "each cell's only digit, `!` for an empty mask, else `.`"
unfoldable pub cell_byte : ℕ → ℕ
cell_byte m = cond (eqb (count (low_nine m)) 0) 33 (only_byte (only_of m))

abbrev pub grid_bytes : List ℕ → List ℕ
grid_bytes m = map (λ c. cell_byte (at m c)) cells

-- ---- the line of a refusal

-- a number with its sign
abbrev pub signed : ℤ → List ℕ
signed (pos n) = decimal n
signed (negsuc n) = 45 ∷ decimal (suc n)

-- "`refused N P`"
unfoldable pub refusal_bytes : Stop → List ℕ
refusal_bytes s = (refused_label ++ decimal (row_of s).number) ++ line_of (32 ∷ []) (signed (row_of s).detail)
