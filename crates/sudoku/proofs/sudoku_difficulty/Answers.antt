-- The figure or the stop, coded.
use mathlib.Core.Path.{sym, subst}
use Rattle.board.specs.Boards.{handed}
use Rattle.sudoku.specs.code.Fitting.{FigureFits}
use Rattle.sudoku.proofs.FigureParts.{figure-fits}
use Rattle.sudoku.proofs.sudoku_difficulty.Goals as goal

pub of_rating-requires : goal.of_rating-requires
of_rating-requires c =
    let a = c.args in
    subst FigureFits (sym c.difficulty.ensures) (figure-fits (handed a.clues.now a.entries.now a.masks.now))
