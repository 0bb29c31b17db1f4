use mathlib.Core.Path.{refl}
use lib.ListN.{replicate}
use Rattle.grid.specs.Cells.{cells}
use Rattle.grid.proofs.Fills.{fill_start, fill_on, fill_end}
use mathlib.Core.Path.{◌∙◌}
use lib.IntN.{pos}
use mir.Facts.{to_z-of_z}
use mir.Syntax.{w32}
use native.Mathlib.Omega.{arith}
use Rattle.record.proofs.sets.clues_from.Goals as goal

pub loop-cell-init : goal.loop-cell-init
unfolding cells
loop-cell-init c = fill_start _ 81 (replicate 81 (pos 0)) refl

pub loop-cell-preserved : goal.loop-cell-preserved
loop-cell-preserved c =
    fill_on _ 81 c.loop-cell.cell c.loop-cell.clues c.loop-cell.invariant (omega arith) (to_z-of_z {w = w32} (record { sfits = c.from.type_inv }) ∙ c.from.ensures)

pub returns : goal.returns
returns c = fill_end _ 81 c.loop-cell.cell c.loop-cell.clues c.loop-cell.invariant c.loop-cell-test.false
