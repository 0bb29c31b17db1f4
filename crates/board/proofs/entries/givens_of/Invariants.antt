-- `board::entries::givens_of` meets its contract. Assumes nothing.
use mathlib.Core.Path.{◌≡◌}
use lib.IntN.{pos}
use lib.ListN.{get_or}
use Rattle.grid.proofs.Fills.{filled}
use Rattle.steps.specs.Boards.{digit_of, givens_of, joint_of, together}
use Rattle.board.proofs.entries.givens_of.Given as goal

abbrev pub invariant-loop-cell : goal.invariant-loop-cell
invariant-loop-cell l = filled (λ c. digit_of (joint_of (get_or l.clues c (pos 0)) (get_or l.entries c (pos 0)))) 81 l.cell l.givens ≡ givens_of (together l.clues l.entries)
