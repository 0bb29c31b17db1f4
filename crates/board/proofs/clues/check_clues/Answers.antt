use mathlib.Core.Path.{◌≡◌, refl, ap, ◌∙◌}
use native.Mathlib.Omega.{arith}
use lib.IntN.{pos}
use lib.ListN.{get_or}
use mir.Facts.{to_z-of_z}
use mir.Syntax.{w32}
use Rattle.grid.specs.Cells.{cells}
use Rattle.stops.specs.declared.Stop.TheVariants.{BadClue}
use Rattle.stops.proofs.Answers.{found-stop, none_found}
use Rattle.steps.specs.Calls.{bad_clue}
use Rattle.steps.proofs.Searches.{found, passed, ended}
use Rattle.board.proofs.clues.check_clues.Goals as goal

pub loop-cell-init : goal.loop-cell-init
unfolding cells
loop-cell-init c = refl

pub returns-then-is_bad : goal.returns-then-is_bad
returns-then-is_bad c =
    let test : c.is_bad.result ≡ bad_clue (get_or c.args.clues.now c.loop-cell.cell (pos 0)) = (
    c.is_bad.ensures
    ∙ ap bad_clue (to_z-of_z {w = w32} {z = get_or c.args.clues.now c.loop-cell.cell (pos 0)} (record { sfits = c.is_bad-arg-1.given }))
    ) in
    found-stop BadClue (omega arith) (found _ 81 c.loop-cell.cell c.loop-cell.invariant (omega arith) (test) c.if-is_bad.true)

pub loop-cell-preserved : goal.loop-cell-preserved
loop-cell-preserved c =
    let test : c.is_bad.result ≡ bad_clue (get_or c.args.clues.now c.loop-cell.cell (pos 0)) = (
    c.is_bad.ensures
    ∙ ap bad_clue (to_z-of_z {w = w32} {z = get_or c.args.clues.now c.loop-cell.cell (pos 0)} (record { sfits = c.is_bad-arg-1.given }))
    ) in
    passed _ 81 c.loop-cell.cell c.loop-cell.invariant (omega arith) (test) c.if-is_bad.false

pub returns : goal.returns
returns c = none_found BadClue (ended _ 81 c.loop-cell.cell c.loop-cell.invariant c.loop-cell-test.false)
