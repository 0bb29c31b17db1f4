use mathlib.Core.Path.{refl, ap, ◌∙◌}
use native.Mathlib.Omega.{arith}
use Rattle.candidates.specs.Masks.{union}
use Rattle.grid.proofs.Lists.{turn-done, turns-over}
use Rattle.lanes.specs.code.Lanes.{loose_of}
use Rattle.lanes.proofs.loose_lane.Invariants.{turn}
use Rattle.lanes.proofs.loose_lane.Goals as goal

pub loop-place-init : goal.loop-place-init
unfolding loose_of
loop-place-init c = (omega arith, refl)

pub loop-place-preserved : goal.loop-place-preserved
loop-place-preserved c =
    let l = c.loop-place in
    let a = c.args in
    (omega arith, turn-done (turn a.lanes.now a.doors.now a.lane) 9 l.place (omega arith) (c.join-held.ensures ∙ ap (union l.held) c.meet.ensures) l.invariant.1)

pub returns : goal.returns
returns c =
    let a = c.args in
    turns-over (turn a.lanes.now a.doors.now a.lane) 9 c.loop-place.place c.loop-place-test.false c.loop-place.invariant.1
