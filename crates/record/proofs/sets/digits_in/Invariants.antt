-- `record::sets::digits_in` meets its contract. Assumes nothing.
use mathlib.Core.Path.{◌≡◌}
use Rattle.grid.proofs.Fills.{filled}
use Rattle.steps.specs.Boards.{at}
use Rattle.record.specs.Records.{digit_in, digits_in}
use Rattle.record.proofs.sets.digits_in.Given as goal

abbrev pub invariant-loop-cell : goal.invariant-loop-cell
invariant-loop-cell l = filled (λ c. digit_in (at l.sets c)) 81 l.cell l.digits ≡ digits_in l.sets
