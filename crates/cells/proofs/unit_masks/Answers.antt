use mathlib.Core.Path.{refl, ap, ◌∙◌}
use native.Mathlib.Omega.{arith}
use lib.ListN.{replicate}
use Rattle.grid.proofs.Fills.{fill_start, fill_on, fill_end}
use Rattle.cells.specs.code.Places.{open_mask, unit_masks}
use Rattle.cells.proofs.unit_masks.Goals as goal

pub loop-place-init : goal.loop-place-init
unfolding unit_masks
loop-place-init c = fill_start _ 9 (replicate 9 0) refl

pub loop-place-preserved : goal.loop-place-preserved
loop-place-preserved c =
    let a = c.args in
    fill_on _ 9 c.loop-place.place c.loop-place.nine c.loop-place.invariant (omega arith) (c.open_mask.ensures ∙ ap (open_mask a.givens.now a.masks.now) c.unit_cell.ensures)

pub returns : goal.returns
returns c = fill_end _ 9 c.loop-place.place c.loop-place.nine c.loop-place.invariant c.loop-place-test.false
