use mathlib.Core.Path.{refl}
use lib.ListN.{replicate}
use Rattle.grid.specs.Cells.{cells}
use Rattle.grid.proofs.Fills.{fill_start, fill_on, fill_end}
use Rattle.record.specs.Records.{lacking}
use native.Mathlib.Omega.{arith}
use Rattle.record.proofs.sets.lacking_sets.Goals as goal

pub loop-cell-init : goal.loop-cell-init
unfolding lacking cells
loop-cell-init c = fill_start _ 81 (replicate 81 0) refl

pub loop-cell-preserved : goal.loop-cell-preserved
loop-cell-preserved c =
    fill_on _ 81 c.loop-cell.cell c.loop-cell.sets c.loop-cell.invariant (omega arith) c.lose.ensures

pub returns : goal.returns
returns c = fill_end _ 81 c.loop-cell.cell c.loop-cell.sets c.loop-cell.invariant c.loop-cell-test.false
