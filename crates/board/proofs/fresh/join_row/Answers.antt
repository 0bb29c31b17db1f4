use mathlib.Core.Path.{◌≡◌, refl, sym, ap, ap₂, ◌∙◌}
use mathlib.Core.List.{List}
use Prim.Native.Nat.{ℕ}
use native.Mathlib.Omega.{arith}
use borrow.Author.Tests.{eq-eqb, ne_eqb}
use Rattle.candidates.proofs.Tests.{cond-true, cond-false}
use Rattle.grid.specs.Cells.{cell}
use Rattle.grid.specs.Marks.{join_units}
use Rattle.grid.proofs.Lists.{turn-done, turns-over}
use Rattle.steps.specs.Boards.{given, given_mask, is_open}
use Rattle.board.specs.code.Fresh.{join_given, join_row}
use Rattle.board.proofs.fresh.join_row.Goals.{else-digit-ne0, then-digit-ne0}
use Rattle.board.proofs.fresh.join_row.Goals as goal

pub loop-col-init : goal.loop-col-init
unfolding join_row
loop-col-init c = (omega arith, refl)

pub loop-col-preserved : goal.loop-col-preserved
loop-col-preserved c =
    (omega arith, turn-done _ 9 k (omega arith) joined c.loop-col.invariant.1)
  where
    g : List ℕ
    g = c.args.givens.now

    r : ℕ
    r = c.args.row

    k : ℕ
    k = c.loop-col.col

    s : List ℕ
    s = c.loop-col.sets

    joined : c.if-digit-ne0.sets ≡ join_given g r k s
    joined =
        unfold join_given in
        elim c.if-digit-ne0.branch [
          | then-digit-ne0 w ↦ w.sets-is ∙ w.join.ensures ∙ ap₂ (λ (r i : ℕ). join_units (cell r i) w.given_mask.result s) w.at.ensures.0 w.at.ensures.1 ∙ ap (λ (x : ℕ). join_units (cell r k) x s) w.given_mask.ensures
              ∙ sym (cond-false (is_open g (cell r k)) s (join_units (cell r k) (given_mask g (cell r k)) s) (ne_eqb (given g (cell r k)) 0 w.if-digit-ne0.true))
          | else-digit-ne0 w ↦ w.sets-is ∙ sym (cond-true (is_open g (cell r k)) s (join_units (cell r k) (given_mask g (cell r k)) s) (eq-eqb (given g (cell r k)) 0 w.if-digit-ne0.false))
        ]

pub returns : goal.returns
returns c = turns-over _ 9 c.loop-col.col c.loop-col-test.false c.loop-col.invariant.1
