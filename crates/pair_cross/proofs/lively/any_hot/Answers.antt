use mathlib.Core.Path.{refl, ap, ◌∙◌}
use native.Mathlib.Omega.{arith}
use Rattle.candidates.specs.Masks.{union}
use Rattle.grid.proofs.Lists.{turn-done, turns-over}
use Rattle.pair_cross.specs.code.Lively.{any_hot}
use Rattle.pair_cross.proofs.lively.any_hot.Invariants.{turn}
use Rattle.pair_cross.proofs.lively.any_hot.Goals as goal

pub loop-held-init : goal.loop-held-init
unfolding any_hot
loop-held-init c = refl

pub loop-held-preserved : goal.loop-held-preserved
loop-held-preserved c =
    let l = c.loop-held in
    let a = c.args in
    turn-done (turn a.nine.now a.twice) 9 l.held-index (omega arith) (c.join-any.ensures ∙ ap (union l.any) c.heat.ensures) l.invariant

pub returns : goal.returns
returns c =
    let a = c.args in
    turns-over (turn a.nine.now a.twice) 9 c.loop-held.held-index c.loop-held-test.false c.loop-held.invariant
