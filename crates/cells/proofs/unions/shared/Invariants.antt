-- `cells::unions::shared` meets its contract. The invariant: the places that are left still make the whole. Assumes nothing.
use mathlib.Core.Path.{◌≡◌}
use Prim.Native.Nat.{◌-◌, ◌≤◌}
use Rattle.steps.specs.Loops.{range}
use Rattle.cells.specs.code.Unions.{shared_from, shared_of}
use Rattle.cells.proofs.unions.shared.Given as goal

abbrev pub invariant-loop-mask : goal.invariant-loop-mask
invariant-loop-mask l = (l.mask-index ≤ 9) × (shared_from l.nine (range (9 - l.mask-index) l.mask-index) l.seen l.both ≡ shared_of l.nine)
