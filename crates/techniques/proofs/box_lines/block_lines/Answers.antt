use mathlib.Core.Path.{refl, ap, ◌∙◌}
use Prim.Native.Nat.{ℕ}
use native.Mathlib.Omega.{arith}
use lib.Bits.{bit_and}
use Rattle.candidates.specs.Masks.{minus}
use Rattle.grid.proofs.Lists.{turn-done, turns-over}
use Rattle.steps.specs.Boards.{is_open}
use Rattle.cells.specs.code.Meets.{met_places, outside, met_unit}
use Rattle.cells.specs.code.Places.{lose_places}
use Rattle.cells.specs.code.Unions.{joined_at}
use Rattle.techniques.specs.code.BoxLines.{on_line, line_turn, block_lines}
use Rattle.techniques.proofs.box_lines.block_lines.Goals as goal

pub loop-nth-init : goal.loop-nth-init
unfolding block_lines
loop-nth-init c = (omega arith, refl)

pub loop-nth-preserved : goal.loop-nth-preserved
unfolding line_turn on_line
loop-nth-preserved c =
    let a = c.args in
    let k = c.loop-nth.nth in (
      omega arith,
      turn-done (line_turn a.givens.now a.unit a.nine.now) 6 k (omega arith)
          (c.lose_line.ensures
          ∙ ap (λ (x : ℕ). lose_places (is_open a.givens.now) (met_unit a.unit k) (outside a.unit k) x c.loop-nth.masks)
          (c.on_line.ensures
          ∙ ap (λ (x : ℕ). minus x (joined_at a.nine.now (minus 511 (met_places k)))) (c.meet-both.ensures ∙ ap (λ (x : ℕ). bit_and x 511) c.shared.ensures)))
          c.loop-nth.invariant.1,
    )

pub returns : goal.returns
returns c =
    let a = c.args in
    turns-over (line_turn a.givens.now a.unit a.nine.now) 6 c.loop-nth.nth c.loop-nth-test.false c.loop-nth.invariant.1
