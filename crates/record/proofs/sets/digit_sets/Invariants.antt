-- `record::sets::digit_sets` meets its contract. Assumes nothing.
use mathlib.Core.Path.{◌≡◌}
use Rattle.grid.proofs.Fills.{filled}
use Rattle.steps.specs.Boards.{given_mask}
use Rattle.record.specs.Records.{digit_sets}
use Rattle.record.proofs.sets.digit_sets.Given as goal

abbrev pub invariant-loop-cell : goal.invariant-loop-cell
invariant-loop-cell l = filled (given_mask l.givens) 81 l.cell l.sets ≡ digit_sets l.givens
