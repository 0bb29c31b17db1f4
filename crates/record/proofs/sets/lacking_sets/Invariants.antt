-- `record::sets::lacking_sets` meets its contract. Assumes nothing.
use mathlib.Core.Path.{◌≡◌}
use Rattle.grid.proofs.Fills.{filled}
use Rattle.candidates.specs.Masks.{minus}
use Rattle.steps.specs.Boards.{at}
use Rattle.record.specs.Records.{lacking}
use Rattle.record.proofs.sets.lacking_sets.Given as goal

abbrev pub invariant-loop-cell : goal.invariant-loop-cell
invariant-loop-cell l = filled (λ c. minus (at l.have c) (at l.other c)) 81 l.cell l.sets ≡ lacking l.have l.other
