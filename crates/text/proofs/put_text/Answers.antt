use mathlib.Core.Path.{refl, ap, ◌∙◌}
use native.Mathlib.Omega.{arith}
use lib.IntN.{pos}
use lib.ListN.{get_or, length-set}
use mir.Facts.{to_z-of_z}
use mir.Syntax.{w32}
use Rattle.grid.specs.Cells.{cells}
use Rattle.text.specs.Texts.{clue_byte}
use Rattle.grid.proofs.Fills.{fill-front, fill_on, fill_end}
use Rattle.text.proofs.put_text.Goals as goal

pub loop-cell-init : goal.loop-cell-init
unfolding cells
loop-cell-init c = (refl, fill-front (λ i. clue_byte (get_or c.args.grid.now i (pos 0))) 81 c.args.out.now c.requires)

pub loop-cell-preserved : goal.loop-cell-preserved
loop-cell-preserved c = (
  length-set c.loop-cell.out c.loop-cell.cell c.clue_byte.result ∙ c.loop-cell.invariant.0,
  fill_on (λ i. clue_byte (get_or c.args.grid.now i (pos 0))) 81 c.loop-cell.cell c.loop-cell.out c.loop-cell.invariant.1 (omega arith)
      (c.clue_byte.ensures ∙ ap clue_byte (to_z-of_z {w = w32} {z = get_or c.args.grid.now c.loop-cell.cell (pos 0)} (record { sfits = c.clue_byte-arg-1.given }))),
)

pub returns : goal.returns
returns c =
    fill_end (λ i. clue_byte (get_or c.args.grid.now i (pos 0))) 81 c.loop-cell.cell c.loop-cell.out c.loop-cell.invariant.1 c.loop-cell-test.false
