-- `record::sets::clues_from` meets its contract. Assumes nothing.
use mathlib.Core.Path.{◌≡◌}
use Rattle.grid.proofs.Fills.{filled}
use lib.IntN.{pos}
use Rattle.steps.specs.Boards.{given}
use Rattle.record.specs.Records.{clues_from}
use Rattle.record.proofs.sets.clues_from.Given as goal

abbrev pub invariant-loop-cell : goal.invariant-loop-cell
invariant-loop-cell l = filled (λ c. pos (given l.givens c)) 81 l.cell l.clues ≡ clues_from l.givens
