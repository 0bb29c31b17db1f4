-- `grid::unit_table` meets its contract: the constant is the table of the definitions. Assumes nothing.
use mathlib.Core.Path.{refl}
use Rattle.grid.specs.Units.{units}
use Rattle.grid.proofs.unit_table.Goals as goal

pub returns : goal.returns
unfolding units
returns c = refl
