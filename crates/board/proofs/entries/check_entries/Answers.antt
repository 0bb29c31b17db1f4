use mathlib.Core.Path.{◌≡◌, refl, ap₂, ◌∙◌}
use native.Mathlib.Omega.{arith}
use lib.IntN.{pos}
use lib.ListN.{get_or}
use mir.Facts.{to_z-of_z}
use mir.Syntax.{w32}
use Rattle.grid.specs.Cells.{cells}
use Rattle.stops.specs.declared.Stop.TheVariants.{BadEntry}
use Rattle.stops.proofs.Answers.{found-stop, none_found}
use Rattle.steps.specs.Calls.{bad_entry}
use Rattle.steps.proofs.Searches.{found, passed, ended}
use Rattle.board.proofs.entries.check_entries.Goals as goal

pub loop-cell-init : goal.loop-cell-init
unfolding cells
loop-cell-init c = refl

pub returns-then-is_bad_entry : goal.returns-then-is_bad_entry
returns-then-is_bad_entry c =
    let test : c.is_bad_entry.result
    ≡ bad_entry (get_or c.args.clues.now c.loop-cell.cell (pos 0)) (get_or c.args.entries.now c.loop-cell.cell (pos 0)) = (
    c.is_bad_entry.ensures
    ∙ ap₂ bad_entry (to_z-of_z {w = w32} {z = get_or c.args.clues.now c.loop-cell.cell (pos 0)} (record { sfits = c.is_bad_entry-arg-1.given }))
    (to_z-of_z {w = w32} {z = get_or c.args.entries.now c.loop-cell.cell (pos 0)} (record { sfits = c.is_bad_entry-arg-in-loop-cell-1.given }))
    ) in
    let l = c.loop-cell in
    found-stop BadEntry (omega arith) (found _ 81 l.cell l.invariant (omega arith) (test) c.if-is_bad_entry.true)

pub loop-cell-preserved : goal.loop-cell-preserved
loop-cell-preserved c =
    let test : c.is_bad_entry.result
    ≡ bad_entry (get_or c.args.clues.now c.loop-cell.cell (pos 0)) (get_or c.args.entries.now c.loop-cell.cell (pos 0)) = (
    c.is_bad_entry.ensures
    ∙ ap₂ bad_entry (to_z-of_z {w = w32} {z = get_or c.args.clues.now c.loop-cell.cell (pos 0)} (record { sfits = c.is_bad_entry-arg-1.given }))
    (to_z-of_z {w = w32} {z = get_or c.args.entries.now c.loop-cell.cell (pos 0)} (record { sfits = c.is_bad_entry-arg-in-loop-cell-1.given }))
    ) in
    let l = c.loop-cell in
    passed _ 81 l.cell l.invariant (omega arith) (test) c.if-is_bad_entry.false

pub returns : goal.returns
returns c = none_found BadEntry (ended _ 81 c.loop-cell.cell c.loop-cell.invariant c.loop-cell-test.false)
