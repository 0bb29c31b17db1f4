-- The answer on a board that was checked.
use Rattle.std.specs.Prelude.{cond, List, ℕ, eqb}
use Rattle.stops.specs.Answer.{Answer, gives, stop}
use Rattle.stops.specs.declared.Stop.TheVariants.{NoOpenCell}
use Rattle.steps.specs.Boards.{fresh}
use Rattle.steps.specs.Difficulty.{Figure, pass_counts, points_of, open_cells, figure_of}

-- by what each pass removed
abbrev pub rating_by : List ℕ → List ℕ → Answer Figure
rating_by g counts = cond (eqb (open_cells g) 0) (stop NoOpenCell) (gives (figure_of (points_of counts) (open_cells g)))

abbrev pub rate_of : List ℕ → Answer Figure
rate_of g = rating_by g (pass_counts g (fresh g))
