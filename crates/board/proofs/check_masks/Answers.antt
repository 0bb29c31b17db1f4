use mathlib.Core.Path.{refl}
use native.Mathlib.Omega.{arith}
use Rattle.grid.specs.Cells.{cells}
use Rattle.stops.specs.declared.Stop.TheVariants.{BadMask}
use Rattle.stops.proofs.Answers.{found-stop, none_found}
use Rattle.steps.proofs.Searches.{found, passed, ended}
use Rattle.board.proofs.check_masks.Goals as goal

pub loop-cell-init : goal.loop-cell-init
unfolding cells
loop-cell-init c = refl

pub returns-then-misfits : goal.returns-then-misfits
returns-then-misfits c =
    let l = c.loop-cell in
    found-stop BadMask (omega arith) (found _ 81 l.cell l.invariant (omega arith) c.misfits.ensures c.if-misfits.true)

pub loop-cell-preserved : goal.loop-cell-preserved
loop-cell-preserved c =
    let l = c.loop-cell in
    passed _ 81 l.cell l.invariant (omega arith) c.misfits.ensures c.if-misfits.false

pub returns : goal.returns
returns c = none_found BadMask (ended _ 81 c.loop-cell.cell c.loop-cell.invariant c.loop-cell-test.false)
