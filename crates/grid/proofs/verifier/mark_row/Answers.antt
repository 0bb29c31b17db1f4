use borrow.Author.Rules.{rules}
use native.Mathlib.Omega.{arith}
use Rattle.grid.proofs.Standing.{standing_on, standing-yes, standing-no}
use Rattle.grid.proofs.verifier.mark_row.Goals as goal

pub returns-then-not-mark_cell : goal.returns-then-not-mark_cell
returns-then-not-mark_cell c =
    standing-no (standing_on c.loop-col.invariant.1 (search rules) c.mark_cell.ensures.0 c.mark_cell.ensures.1) c.if-not-mark_cell.true _ (omega arith) _

pub loop-col-preserved : goal.loop-col-preserved
loop-col-preserved c =
    (omega arith, standing-yes (standing_on c.loop-col.invariant.1 (search rules) c.mark_cell.ensures.0 c.mark_cell.ensures.1) c.if-not-mark_cell.false _ (omega arith))
