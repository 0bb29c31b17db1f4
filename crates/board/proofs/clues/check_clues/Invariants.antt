-- `board::clues::check_clues` meets its contract. Assumes nothing.
use mathlib.Core.Path.{◌≡◌}
use Prim.Native.Nat.{◌-◌}
use lib.IntN.{pos}
use lib.ListN.{get_or}
use Rattle.grid.specs.Lists.{range}
use Rattle.steps.specs.Calls.{bad_clue, first_bad_clue}
use Rattle.steps.specs.Loops.{first}
use Rattle.board.proofs.clues.check_clues.Given as goal

abbrev pub invariant-loop-cell : goal.invariant-loop-cell
invariant-loop-cell l = first (λ c. bad_clue (get_or l.clues c (pos 0))) (range (81 - l.cell) l.cell) ≡ first_bad_clue l.clues
