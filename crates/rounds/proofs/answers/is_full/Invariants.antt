-- `rounds::answers::is_full` meets its contract. Assumes nothing. The invariant: the cells from this one on decide.
use mathlib.Core.Path.{◌≡◌}
use Prim.Native.Nat.{◌-◌}
use lib.ListN.{get_or}
use Rattle.grid.specs.Lists.{range}
use Rattle.steps.specs.Loops.{all}
use Rattle.rounds.specs.Answers.{is_numeral, is_full}
use Rattle.rounds.proofs.answers.is_full.Given as goal

abbrev pub invariant-loop-cell : goal.invariant-loop-cell
invariant-loop-cell l = all (λ i. is_numeral (get_or l.answer i 0)) (range (81 - l.cell) l.cell) ≡ is_full l.answer
