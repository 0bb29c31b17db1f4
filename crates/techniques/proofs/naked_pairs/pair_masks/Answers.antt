use mathlib.Core.Path.{refl, ap, ◌∙◌}
use mathlib.Core.Bool.{cond}
use Prim.Native.Nat.{ℕ}
use native.Mathlib.Omega.{arith}
use lib.ListN.{replicate}
use Rattle.grid.proofs.Fills.{fill_start, fill_on, fill_end}
use Rattle.steps.specs.Boards.{is_open}
use Rattle.techniques.specs.code.NakedPairs.{pair_masks}
use Rattle.techniques.proofs.naked_pairs.pair_masks.Goals as goal

pub loop-cell-init : goal.loop-cell-init
unfolding pair_masks
loop-cell-init c = fill_start _ 81 (replicate 81 0) refl

pub loop-cell-preserved : goal.loop-cell-preserved
loop-cell-preserved c =
    let a = c.args in
    let i = c.loop-cell.cell in
    fill_on _ 81 i c.loop-cell.pairs c.loop-cell.invariant (omega arith) (c.if_open.ensures ∙ ap (λ (x : ℕ). cond (is_open a.givens.now i) x 0) c.if_two.ensures)

pub returns : goal.returns
returns c = fill_end _ 81 c.loop-cell.cell c.loop-cell.pairs c.loop-cell.invariant c.loop-cell-test.false
