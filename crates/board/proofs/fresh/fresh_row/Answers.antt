use mathlib.Core.Path.{refl, ap, ap₂, ◌∙◌}
use Prim.Native.Nat.{ℕ}
use native.Mathlib.Omega.{arith}
use lib.ListN.{set}
use Rattle.grid.specs.Cells.{cell}
use Rattle.grid.proofs.Lists.{turn-done, turns-over}
use Rattle.grid.specs.Marks.{seen}
use Rattle.steps.specs.Boards.{given}
use Rattle.board.specs.code.Fresh.{fresh_mask, fresh_row}
use Rattle.board.proofs.fresh.fresh_row.Invariants.{turn}
use Rattle.board.proofs.fresh.fresh_row.Goals as goal

pub loop-col-init : goal.loop-col-init
unfolding fresh_row
loop-col-init c = (omega arith, refl)

pub loop-col-preserved : goal.loop-col-preserved
loop-col-preserved c =
    let a = c.args in
    let g = a.givens.now in
    let k = c.loop-col.col in (
      omega arith,
      turn-done (turn g a.sets.now a.row) 9 k (omega arith)
          (ap (set c.loop-col.masks (cell a.row k)) (c.fresh_mask.ensures ∙ ap (fresh_mask (given g (cell a.row k))) (c.seen_digits.ensures ∙ ap₂ (λ (r i : ℕ). seen a.sets.now (cell r i)) c.at.ensures.0 c.at.ensures.1))) c.loop-col.invariant.1,
    )

pub returns : goal.returns
returns c =
    let a = c.args in
    turns-over (turn a.givens.now a.sets.now a.row) 9 c.loop-col.col c.loop-col-test.false c.loop-col.invariant.1
