use mathlib.Core.Path.{refl, ap, ◌∙◌}
use Prim.Native.Nat.{ℕ, ◌+◌}
use native.Mathlib.Omega.{arith}
use lib.ListN.{replicate}
use Rattle.grid.proofs.Fills.{fill_start, fill_on, fill_end}
use Rattle.cells.specs.code.Places.{unit_masks}
use Rattle.techniques.specs.code.XWings.{twice_of, twice_sets}
use Rattle.techniques.proofs.x_wings.twice_sets.Goals as goal

pub loop-line-init : goal.loop-line-init
unfolding twice_sets
loop-line-init c = fill_start _ 9 (replicate 9 0) refl

pub loop-line-preserved : goal.loop-line-preserved
loop-line-preserved c =
    let a = c.args in
    let i = c.loop-line.line in
    fill_on _ 9 i c.loop-line.sets c.loop-line.invariant (omega arith)
    (c.held_twice.ensures ∙ ap twice_of (c.unit_masks-nine.ensures ∙ ap (λ (f : ℕ). unit_masks a.givens.now a.masks.now (f + i)) c.first-first.ensures))

pub returns : goal.returns
returns c = fill_end _ 9 c.loop-line.line c.loop-line.sets c.loop-line.invariant c.loop-line-test.false
