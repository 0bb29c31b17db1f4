use mathlib.Core.Path.{refl, ap, ◌∙◌}
use mathlib.Core.List.{List}
use Prim.Native.Nat.{ℕ}
use native.Mathlib.Omega.{arith}
use Rattle.grid.proofs.Lists.{turn-done, turns-over}
use Rattle.locked.specs.code.Rests.{put_lane, put_turn, put_lanes}
use Rattle.locked.proofs.rests.put_lanes.Goals as goal

pub loop-lane-init : goal.loop-lane-init
unfolding put_lanes
loop-lane-init g c = refl

pub loop-lane-preserved : goal.loop-lane-preserved
loop-lane-preserved g c =
    let l = c.loop-lane in
    let a = c.args in
    turn-done (put_turn a.lanes.now a.doors.now a.loose g.row.COUNT) g.row.END l.lane (omega arith) (c.put_lane.ensures ∙ ap (λ (x : List ℕ). put_lane x g.row.COUNT l.lane l.rests) c.nine_of-nine.ensures) l.invariant

pub returns : goal.returns
returns g c =
    let a = c.args in
    turns-over (put_turn a.lanes.now a.doors.now a.loose g.row.COUNT) g.row.END c.loop-lane.lane (omega arith) c.loop-lane.invariant
