use mathlib.Core.Path.{ap}
use mathlib.Core.List.{List}
use Prim.Native.Nat.{ℕ}
use native.Mathlib.Omega.{arith}
use Rattle.grid.proofs.Lists.{turn-done, turns-over}
use Rattle.techniques.specs.code.XWings.{wings_from, wings_in}
use Rattle.techniques.proofs.x_wings.wing_digit.Goals as goal

pub loop-first-init : goal.loop-first-init
unfolding wings_in
loop-first-init c =
    let a = c.args in
    (omega arith, ap (λ (list : List ℕ). wings_in a.givens.now a.lines a.digit list a.masks.now) c.two_spots-list.ensures)

pub loop-first-preserved : goal.loop-first-preserved
loop-first-preserved c =
    let a = c.args in (
      omega arith,
      turn-done (wings_from a.givens.now a.lines a.digit c.two_spots-list.result) 9 c.loop-first.first (omega arith) c.wings_from.ensures c.loop-first.invariant.1,
    )

pub returns : goal.returns
returns c =
    let a = c.args in
    turns-over (wings_from a.givens.now a.lines a.digit c.two_spots-list.result) 9 c.loop-first.first c.loop-first-test.false c.loop-first.invariant.1
