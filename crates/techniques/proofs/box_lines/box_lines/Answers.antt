use mathlib.Core.Path.{ap, ◌∙◌}
use mathlib.Core.List.{List}
use Prim.Native.Nat.{ℕ, ◌+◌}
use native.Mathlib.Omega.{arith}
use Rattle.grid.proofs.Lists.{turn-done, turns-over}
use Rattle.techniques.specs.code.BoxLines.{block_lines, block_turn}
use Rattle.techniques.proofs.BoxLines.{boxes-are}
use Rattle.techniques.proofs.box_lines.box_lines.Goals as goal

pub loop-block-init : goal.loop-block-init
loop-block-init c = (omega arith, boxes-are c.args.givens.now c.args.masks.now)

pub loop-block-preserved : goal.loop-block-preserved
unfolding block_turn
loop-block-preserved c =
    let a = c.args in
    let l = c.loop-block in (
      omega arith,
      turn-done (block_turn a.givens.now) 9 l.block (omega arith)
          (c.block_lines.ensures ∙ ap (λ (nine : List ℕ). block_lines a.givens.now (18 + l.block) nine l.masks) c.unit_masks-nine.ensures)
          l.invariant.1,
    )

pub returns : goal.returns
returns c =
    turns-over (block_turn c.args.givens.now) 9 c.loop-block.block c.loop-block-test.false c.loop-block.invariant.1
