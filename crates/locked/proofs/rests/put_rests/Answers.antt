-- `locked::rests::put_rests` meets its contract. Assumes nothing.
use mathlib.Core.Path.{ap, ◌∙◌}
use mathlib.Core.Bool.{not}
use Rattle.locked.specs.code.Rests.{put_lanes, put_rests}
use Rattle.locked.proofs.rests.put_rests.Goals as goal

pub returns : goal.returns
unfolding put_rests
returns c =
    let a = c.args in
    c.put_lanes-2.ensures ∙ ap (put_lanes a.lanes.now a.doors.now (not a.boxes) 6 32 48) c.put_lanes.ensures
