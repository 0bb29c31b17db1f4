use mathlib.Core.Path.{refl, ap, ◌∙◌}
use native.Mathlib.Omega.{arith}
use lib.IntN.{pos}
use lib.ListN.{get_or}
use mir.Facts.{to_z-of_z}
use mir.Syntax.{w32}
use Rattle.grid.specs.Cells.{cells}
use Rattle.steps.specs.Calls.{bad_clue}
use Rattle.board.proofs.Flags.{flag-on, flag-end}
use Rattle.board.proofs.clues.any_bad.Goals as goal

pub loop-cell-init : goal.loop-cell-init
unfolding cells
loop-cell-init c = refl

pub loop-cell-preserved : goal.loop-cell-preserved
loop-cell-preserved c =
    flag-on (λ i. bad_clue (get_or c.args.clues.now i (pos 0))) 81 c.loop-cell.cell c.loop-cell.any c.loop-cell.invariant (omega arith)
    (c.is_bad-any.ensures ∙ ap bad_clue (to_z-of_z {w = w32} {z = get_or c.args.clues.now c.loop-cell.cell (pos 0)} (record { sfits = c.is_bad-arg-1.given })))

pub returns : goal.returns
returns c =
    flag-end (λ i. bad_clue (get_or c.args.clues.now i (pos 0))) 81 c.loop-cell.cell c.loop-cell.any c.loop-cell.invariant c.loop-cell-test.false
