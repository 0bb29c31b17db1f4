use mathlib.Core.Path.{refl, ap₂, ◌∙◌}
use native.Mathlib.Omega.{arith}
use lib.IntN.{pos}
use lib.ListN.{get_or}
use mir.Facts.{to_z-of_z}
use mir.Syntax.{w32}
use Rattle.grid.specs.Cells.{cells}
use Rattle.steps.specs.Calls.{bad_entry}
use Rattle.board.proofs.Flags.{flag-on, flag-end}
use Rattle.board.proofs.entries.any_bad_entry.Goals as goal

pub loop-cell-init : goal.loop-cell-init
unfolding cells
loop-cell-init c = refl

pub loop-cell-preserved : goal.loop-cell-preserved
loop-cell-preserved c =
    let a = c.args in
    flag-on (λ i. bad_entry (get_or a.clues.now i (pos 0)) (get_or a.entries.now i (pos 0))) 81 c.loop-cell.cell c.loop-cell.any c.loop-cell.invariant (omega arith)
    (c.is_bad_entry-any.ensures
    ∙ ap₂ bad_entry (to_z-of_z {w = w32} {z = get_or a.clues.now c.loop-cell.cell (pos 0)} (record { sfits = c.is_bad_entry-arg-1.given }))
    (to_z-of_z {w = w32} {z = get_or a.entries.now c.loop-cell.cell (pos 0)} (record { sfits = c.is_bad_entry-arg-in-loop-cell-1.given })))

pub returns : goal.returns
returns c =
    let a = c.args in
    flag-end (λ i. bad_entry (get_or a.clues.now i (pos 0)) (get_or a.entries.now i (pos 0))) 81 c.loop-cell.cell c.loop-cell.any c.loop-cell.invariant c.loop-cell-test.false
