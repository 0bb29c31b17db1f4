-- The count is below 82, so it fits.
use mathlib.Core.Path.{ap, ◌∙◌}
use native.Mathlib.Omega.{arith}
use lib.IntN.{pos}
use Rattle.stops.proofs.Numbers.{small}
use Rattle.steps.specs.Boards.{givens_of}
use Rattle.sudoku.proofs.Fitting.{few-clues, place-fits}
use Rattle.sudoku.proofs.arrays.clue_number.Goals as goal

pub overflow_cast-result : goal.overflow_cast-result
overflow_cast-result c = place-fits (omega (arith, c.count_clues.ensures, few-clues (givens_of c.args.clues.now)))

pub returns : goal.returns
returns c =
    let few = few-clues (givens_of c.args.clues.now) in
    small (omega (arith, c.count_clues.ensures, few)) ∙ ap pos c.count_clues.ensures
