-- `record::sets::open_sets` meets its contract. Assumes nothing.
use mathlib.Core.Path.{◌≡◌}
use Rattle.grid.proofs.Fills.{filled}
use mathlib.Core.Bool.{cond}
use Rattle.steps.specs.Boards.{at, is_open}
use Rattle.record.specs.Records.{open_sets}
use Rattle.record.proofs.sets.open_sets.Given as goal

abbrev pub invariant-loop-cell : goal.invariant-loop-cell
invariant-loop-cell l = filled (λ c. cond (is_open l.givens c) (at l.masks c) 0) 81 l.cell l.sets ≡ open_sets l.givens l.masks
