-- `techniques::x_wings::held_twice` meets its contract. The invariant: the places that are left still make the whole. Assumes nothing.
use mathlib.Core.Path.{◌≡◌}
use Prim.Native.Nat.{◌-◌, ◌≤◌}
use Rattle.steps.specs.Loops.{range}
use Rattle.techniques.specs.code.XWings.{twice_from, twice_of}
use Rattle.techniques.proofs.x_wings.held_twice.Given as goal

abbrev pub invariant-loop-mask : goal.invariant-loop-mask
invariant-loop-mask l = (l.mask-index ≤ 9) × (twice_from l.nine (range (9 - l.mask-index) l.mask-index) l.once l.twice l.more ≡ twice_of l.nine)
