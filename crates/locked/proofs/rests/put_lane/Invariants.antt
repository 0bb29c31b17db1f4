-- `locked::rests::put_lane` meets its contract. The invariant: the rests that are left still make the whole. Assumes nothing.
use mathlib.Core.Path.{◌≡◌}
use Prim.Native.Nat.{◌-◌}
use Rattle.steps.specs.Loops.{each, range}
use Rattle.locked.specs.code.Rests.{put_rest, put_lane}
use Rattle.locked.proofs.rests.put_lane.Given as goal

abbrev pub invariant-loop-nth : goal.invariant-loop-nth
invariant-loop-nth g l = each (put_rest l.nine l.lane) (range (l.nth-end - l.nth) l.nth) l.rests ≡ put_lane l.nine l.nth-end l.lane l.initial.rests
