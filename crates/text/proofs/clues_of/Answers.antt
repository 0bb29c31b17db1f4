use mathlib.Core.Path.{refl, ap, ◌∙◌}
use native.Mathlib.Omega.{arith}
use lib.IntN.{pos}
use lib.ListN.{replicate}
use mir.Facts.{to_z-of_z}
use mir.Syntax.{w32}
use Rattle.grid.specs.Cells.{cells}
use Rattle.text.specs.Texts.{byte_clue}
use Rattle.grid.proofs.Fills.{fill_start, fill_on, fill_end}
use Rattle.text.proofs.clues_of.Goals as goal

pub loop-index-init : goal.loop-index-init
unfolding cells
loop-index-init c = fill_start _ 81 (replicate 81 (pos 0)) refl

pub loop-index-preserved : goal.loop-index-preserved
loop-index-preserved c =
    let l = c.loop-index in
    fill_on _ 81 l.index l.clues l.invariant (omega arith)
    (to_z-of_z {w = w32} (record { sfits = c.byte_clue.type_inv }) ∙ c.byte_clue.ensures ∙ ap byte_clue c.byte_at.ensures)

pub returns : goal.returns
returns c = fill_end _ 81 c.loop-index.index c.loop-index.clues c.loop-index.invariant c.loop-index-test.false
