use mathlib.Core.Path.{refl, ap, ◌∙◌}
use native.Mathlib.Omega.{arith}
use lib.Bits.{bit_and}
use Rattle.candidates.specs.Masks.{union}
use Rattle.grid.proofs.Lists.{turn-done, turns-over}
use Rattle.steps.specs.Boards.{at}
use Rattle.cells.specs.code.Places.{loose_digits}
use Rattle.cells.proofs.loose_digits.Invariants.{turn}
use Rattle.cells.proofs.loose_digits.Goals as goal

pub loop-cell-init : goal.loop-cell-init
unfolding loose_digits
loop-cell-init c = (omega arith, refl)

pub loop-cell-preserved : goal.loop-cell-preserved
loop-cell-preserved c =
    let a = c.args in
    let did = c.join-held.ensures ∙ ap (union c.loop-cell.held) (c.meet.ensures ∙ ap (bit_and (at a.masks.now c.loop-cell.cell)) c.door.ensures) in
    (omega arith, turn-done (turn a.givens.now a.masks.now) 81 c.loop-cell.cell (omega arith) did c.loop-cell.invariant.1)

pub returns : goal.returns
returns c =
    let a = c.args in
    turns-over (turn a.givens.now a.masks.now) 81 c.loop-cell.cell c.loop-cell-test.false c.loop-cell.invariant.1
