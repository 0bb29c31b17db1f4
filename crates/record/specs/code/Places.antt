-- The candidates of one cell: the writer goes over the cells, and in each over its digits.
use Rattle.std.specs.Prelude.{List, map, ℕ, ◌+◌, ◌*◌}
use Rattle.cells.specs.code.Places.{places_in}

abbrev pub cell_candidates : ℕ → ℕ → List ℕ
cell_candidates c x = map (λ d. 9 * c + d) (places_in x)
