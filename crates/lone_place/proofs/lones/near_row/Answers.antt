use mathlib.Core.Path.{refl, ap, ◌∙◌}
use Prim.Native.Nat.{ℕ, ◌+◌, ◌*◌, ◌/◌}
use native.Mathlib.Omega.{arith}
use lib.ListN.{replicate}
use Rattle.candidates.specs.Masks.{union}
use Rattle.grid.proofs.Fills.{fill_start, fill_on, fill_end}
use Rattle.steps.specs.Boards.{at}
use Rattle.lone_place.specs.code.Due.{near_row}
use Rattle.lone_place.proofs.lones.near_row.Goals as goal

pub loop-nth-init : goal.loop-nth-init
unfolding near_row
loop-nth-init c = fill_start _ 16 (replicate 16 0) refl

pub loop-nth-preserved : goal.loop-nth-preserved
loop-nth-preserved c =
    let a = c.args in
    fill_on _ 16 c.loop-nth.nth c.loop-nth.set-items c.loop-nth.invariant (omega arith)
    (c.join.ensures ∙ ap (λ (x : ℕ). union x (at a.sets.now (32 + 3 * (a.row / 3) + c.loop-nth.nth / 3))) c.join-lines.ensures)

pub returns : goal.returns
returns c = fill_end _ 16 c.loop-nth.nth c.loop-nth.set-items c.loop-nth.invariant c.loop-nth-test.false
