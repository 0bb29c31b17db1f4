-- `locked::rests::nine_due` meets its contract. The invariant: the units that are left still make the whole. Assumes nothing.
use mathlib.Core.Path.{◌≡◌}
use Prim.Native.Nat.{◌+◌}
use Rattle.grid.proofs.Fills.{filled}
use Rattle.locked.specs.code.Rests.{unit_due, nine_due}
use Rattle.locked.proofs.rests.nine_due.Given as goal

abbrev pub invariant-loop-nth : goal.invariant-loop-nth
invariant-loop-nth l = filled (λ k. unit_due l.rests (l.first + k)) 9 l.nth l.digits-items ≡ nine_due l.rests l.first
