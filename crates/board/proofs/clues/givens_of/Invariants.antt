-- `board::clues::givens_of` meets its contract. Assumes nothing.
use mathlib.Core.Path.{◌≡◌}
use lib.IntN.{pos}
use lib.ListN.{get_or}
use Rattle.steps.specs.Boards.{digit_of, givens_of}
use Rattle.grid.proofs.Fills.{filled}
use Rattle.board.proofs.clues.givens_of.Given as goal

abbrev pub invariant-loop-cell : goal.invariant-loop-cell
invariant-loop-cell l = filled (λ c. digit_of (get_or l.clues c (pos 0))) 81 l.cell l.givens ≡ givens_of l.clues
