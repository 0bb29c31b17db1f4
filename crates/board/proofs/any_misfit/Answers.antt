use mathlib.Core.Path.{refl}
use native.Mathlib.Omega.{arith}
use Rattle.grid.specs.Cells.{cells}
use Rattle.steps.specs.Boards.{at, given}
use Rattle.board.specs.code.Checks.{misfit_of}
use Rattle.board.proofs.Flags.{flag-on, flag-end}
use Rattle.board.proofs.any_misfit.Goals as goal

pub loop-cell-init : goal.loop-cell-init
unfolding cells
loop-cell-init c = refl

pub loop-cell-preserved : goal.loop-cell-preserved
loop-cell-preserved c =
    let a = c.args in
    flag-on (λ i. misfit_of (at a.masks.now i) (at a.fresh.now i) (given a.givens.now i)) 81 c.loop-cell.cell c.loop-cell.any c.loop-cell.invariant (omega arith) c.misfits-any.ensures

pub returns : goal.returns
returns c =
    let a = c.args in
    flag-end (λ i. misfit_of (at a.masks.now i) (at a.fresh.now i) (given a.givens.now i)) 81 c.loop-cell.cell c.loop-cell.any c.loop-cell.invariant c.loop-cell-test.false
