use mathlib.Core.Path.{refl, ap, ◌∙◌}
use Prim.Native.Nat.{ℕ, ◌+◌}
use native.Mathlib.Omega.{arith}
use lib.ListN.{replicate}
use Rattle.grid.proofs.Fills.{fill_start, fill_on, fill_end}
use Rattle.steps.specs.Boards.{at}
use Rattle.techniques.specs.code.XWings.{spots_where, two_spots}
use Rattle.techniques.proofs.x_wings.two_spots.Goals as goal

pub loop-line-init : goal.loop-line-init
unfolding two_spots
loop-line-init c = fill_start _ 9 (replicate 9 0) refl

pub loop-line-preserved : goal.loop-line-preserved
loop-line-preserved c =
    let a = c.args in
    let i = c.loop-line.line in
    fill_on _ 9 i c.loop-line.list c.loop-line.invariant (omega arith)
    (c.spots_where.ensures ∙ ap (λ (f : ℕ). spots_where a.givens.now a.masks.now (f + i) a.digit (at a.sets.now i)) c.first-first.ensures)

pub returns : goal.returns
returns c = fill_end _ 9 c.loop-line.line c.loop-line.list c.loop-line.invariant c.loop-line-test.false
