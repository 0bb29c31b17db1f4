-- `techniques::x_wings::wing_digit` meets its contract. The invariant: the first lines that are left still make the whole. Assumes nothing.
use mathlib.Core.Path.{◌≡◌}
use Prim.Native.Nat.{◌-◌, ◌≤◌}
use Rattle.steps.specs.Loops.{each, range}
use Rattle.techniques.specs.code.XWings.{wings_from, wings_in, two_spots}
use Rattle.techniques.proofs.x_wings.wing_digit.Given as goal

abbrev pub invariant-loop-first : goal.invariant-loop-first
invariant-loop-first l = (l.first ≤ 9) × (each (wings_from l.givens l.lines l.digit l.list) (range (9 - l.first) l.first) l.masks ≡ wings_in l.givens l.lines l.digit (two_spots l.givens l.initial.masks l.lines l.digit l.sets) l.initial.masks)
