-- `locked::rests::renew` meets its contract. Assumes nothing.
use mathlib.Core.Path.{◌≡◌}
use mathlib.Core.List.{List}
use Prim.Native.Nat.{ℕ}
use Rattle.cells.specs.code.Meets.{meetings}
use Rattle.cells.proofs.Meetings.{three-boxes, six-lines}
use Rattle.lanes.specs.code.Lanes.{lane_of}
use Rattle.locked.specs.code.Rests.{put_lane, renewed}
use Rattle.locked.proofs.rests.renew.Goals as goal

-- so many rests of these masks
made : (nine : List ℕ) (u : ℕ) (r : List ℕ) {s : List ℕ} {n : ℕ} → meetings u ≡ n → s ≡ put_lane nine n (lane_of u) r → s ≡ renewed nine u r
unfolding renewed
made nine u r many e = rw many e

pub returns-then-unit-ge18 : goal.returns-then-unit-ge18
returns-then-unit-ge18 c =
    let a = c.args in
    made a.own.now a.unit a.rests.now (six-lines c.if-unit-ge18.true) c.put_lane.ensures

pub returns-else-unit-ge18 : goal.returns-else-unit-ge18
returns-else-unit-ge18 c =
    let a = c.args in
    made a.own.now a.unit a.rests.now (three-boxes c.if-unit-ge18.false) c.put_lane-else-unit-ge18.ensures
