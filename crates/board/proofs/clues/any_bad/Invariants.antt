-- `board::clues::any_bad` meets its contract. Assumes nothing.
use mathlib.Core.Path.{◌≡◌}
use mathlib.Core.Bool.{◌||◌}
use Prim.Native.Nat.{◌-◌}
use lib.IntN.{pos}
use lib.ListN.{get_or}
use Rattle.grid.specs.Lists.{range}
use Rattle.steps.specs.Calls.{bad_clue, first_bad_clue}
use Rattle.steps.specs.Loops.{first}
use Rattle.board.specs.code.Checks.{is_found}
use Rattle.board.proofs.clues.any_bad.Given as goal

abbrev pub invariant-loop-cell : goal.invariant-loop-cell
invariant-loop-cell l = (l.any || is_found (first (λ c. bad_clue (get_or l.clues c (pos 0))) (range (81 - l.cell) l.cell))) ≡ is_found (first_bad_clue l.clues)
