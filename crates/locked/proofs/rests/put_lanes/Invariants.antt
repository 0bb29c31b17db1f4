-- `locked::rests::put_lanes` meets its contract. The invariant: the lanes that are left still make the whole. Assumes nothing.
use mathlib.Core.Path.{◌≡◌}
use Prim.Native.Nat.{◌-◌}
use Rattle.steps.specs.Loops.{each, range}
use Rattle.locked.specs.code.Rests.{put_turn, put_lanes}
use Rattle.locked.proofs.rests.put_lanes.Given as goal

abbrev pub invariant-loop-lane : goal.invariant-loop-lane
invariant-loop-lane g l = each (put_turn l.lanes l.doors l.loose g.row.COUNT) (range (g.row.END - l.lane) l.lane) l.rests ≡ put_lanes l.lanes l.doors l.loose g.row.COUNT g.row.FIRST g.row.END l.initial.rests
