use mathlib.Core.Path.{refl}
use lib.ListN.{replicate}
use Rattle.grid.specs.Cells.{cells}
use Rattle.grid.proofs.Fills.{fill_start, fill_on, fill_end}
use mathlib.Core.Path.{◌∙◌}
use Rattle.record.specs.Records.{open_sets}
use Rattle.cells.proofs.Places.{open-mask}
use native.Mathlib.Omega.{arith}
use Rattle.record.proofs.sets.open_sets.Goals as goal

pub loop-cell-init : goal.loop-cell-init
unfolding open_sets cells
loop-cell-init c = fill_start _ 81 (replicate 81 0) refl

pub loop-cell-preserved : goal.loop-cell-preserved
loop-cell-preserved c =
    fill_on _ 81 c.loop-cell.cell c.loop-cell.sets c.loop-cell.invariant (omega arith) (c.open_mask.ensures ∙ open-mask c.args.givens.now c.args.masks.now c.loop-cell.cell (omega arith))

pub returns : goal.returns
returns c = fill_end _ 81 c.loop-cell.cell c.loop-cell.sets c.loop-cell.invariant c.loop-cell-test.false
