-- `rounds::answers::judge` meets its contract. Assumes nothing. The invariant: what is left of the search for a broken clue still finds the first.
use mathlib.Core.Path.{◌≡◌}
use Prim.Native.Nat.{◌-◌}
use lib.ListN.{get_or}
use Rattle.grid.specs.Lists.{range}
use Rattle.steps.specs.Loops.{first}
use Rattle.rounds.specs.Answers.{is_broken, first_broken}
use Rattle.rounds.proofs.answers.judge.Given as goal

abbrev pub invariant-loop-cell : goal.invariant-loop-cell
invariant-loop-cell l = first (λ i. is_broken (get_or l.grid i 0) (get_or l.answer i 0)) (range (81 - l.cell) l.cell) ≡ first_broken l.grid l.answer
