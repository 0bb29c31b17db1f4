use mathlib.Core.Path.{refl, ap, ◌∙◌}
use native.Mathlib.Omega.{arith}
use Rattle.candidates.specs.Masks.{union}
use Rattle.grid.proofs.Lists.{turn-done, turns-over}
use Rattle.pair_cross.specs.code.Spots.{spots_of}
use Rattle.pair_cross.proofs.spots.spots.Invariants.{turn}
use Rattle.pair_cross.proofs.spots.spots.Goals as goal

pub loop-place-init : goal.loop-place-init
unfolding spots_of
loop-place-init c = refl

pub loop-place-preserved : goal.loop-place-preserved
loop-place-preserved c =
    let l = c.loop-place in
    let a = c.args in
    turn-done (turn a.lanes.now a.lane a.one) 9 l.place (omega arith) (c.join-found.ensures ∙ ap (union l.found) c.spot.ensures) l.invariant

pub returns : goal.returns
returns c =
    let a = c.args in
    turns-over (turn a.lanes.now a.lane a.one) 9 c.loop-place.place c.loop-place-test.false c.loop-place.invariant
