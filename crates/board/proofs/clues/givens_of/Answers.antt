use mathlib.Core.Path.{refl, ap, ◌∙◌}
use native.Mathlib.Omega.{arith}
use lib.IntN.{pos}
use lib.ListN.{get_or, replicate}
use mir.Facts.{to_z-of_z}
use mir.Syntax.{w32}
use Rattle.grid.specs.Cells.{cells}
use Rattle.steps.specs.Boards.{digit_of, givens_of}
use Rattle.grid.proofs.Fills.{fill_start, fill_on, fill_end}
use Rattle.board.proofs.clues.givens_of.Goals as goal

pub loop-cell-init : goal.loop-cell-init
unfolding givens_of cells
loop-cell-init c = fill_start _ 81 (replicate 81 0) refl

pub loop-cell-preserved : goal.loop-cell-preserved
loop-cell-preserved c =
    fill_on _ 81 c.loop-cell.cell c.loop-cell.givens c.loop-cell.invariant (omega arith)
    (c.given_digit.ensures ∙ ap digit_of (to_z-of_z {w = w32} {z = get_or c.args.clues.now c.loop-cell.cell (pos 0)} (record { sfits = c.given_digit-arg-1.given })))

pub returns : goal.returns
returns c = fill_end _ 81 c.loop-cell.cell c.loop-cell.givens c.loop-cell.invariant c.loop-cell-test.false
