-- `techniques::naked_pairs::twin_of` meets its contract. The invariant: the places that are left still decide. Assumes nothing.
use mathlib.Core.Path.{◌≡◌}
use Prim.Native.Nat.{◌-◌, ◌≤◌}
use Rattle.steps.specs.Boards.{at}
use Rattle.steps.specs.Loops.{range}
use Rattle.techniques.specs.code.NakedPairs.{twin_in, twin_of}
use Rattle.techniques.proofs.naked_pairs.twin_of.Given as goal

abbrev pub invariant-loop-second : goal.invariant-loop-second
invariant-loop-second l = (l.second ≤ 9) × (twin_in l.nine (at l.nine l.first) (range (9 - l.second) l.second) ≡ twin_of l.nine l.first)
