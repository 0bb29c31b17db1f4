-- `lanes::loose` meets its contract. The invariant: the lanes that are left still make the whole. Assumes nothing.
use mathlib.Core.Path.{◌≡◌}
use Prim.Native.Nat.{◌+◌}
use Rattle.grid.proofs.Fills.{filled}
use Rattle.lanes.specs.code.Lanes.{loose_of, loose_sets}
use Rattle.lanes.proofs.loose.Given as goal

abbrev pub invariant-loop-nth : goal.invariant-loop-nth
invariant-loop-nth l = filled (λ k. loose_of l.lanes l.doors (l.first + k)) 16 l.nth l.set-items ≡ loose_sets l.lanes l.doors l.first
