-- A difficulty figure's numbers are small. Assumes nothing.
use mathlib.Core.Path.{◌≡◌, refl}
use native.Mathlib.Omega.{arith}
use Rattle.stops.specs.Answer.{Answer, gives, stop}
use Rattle.steps.specs.Boards.{Board}
use Rattle.steps.specs.Difficulty.{Figure, difficulty_of}
use Rattle.difficulty.proofs.Figures.{figure-small}
use Rattle.sudoku.specs.code.Fitting.{FigureFits}
use Rattle.sudoku.proofs.Fitting.{place-fits}

pub figure-fits : (b : Board) → FigureFits (difficulty_of b)
figure-fits b = go (difficulty_of b) refl
  where
    go : (a : Answer Figure) → difficulty_of b ≡ a → FigureFits a
    go (gives f) e =
        let s = figure-small b f e in
        (place-fits (omega (arith, s.cells)), place-fits (omega (arith, s.quotient)), place-fits (omega (arith, s.remainder)))
    go (stop s) e = tt
