-- `pair_cross::pairs::pair_due` meets its contract. The invariant: the units that are left still make the whole, and stand as they stood. Assumes nothing.
use mathlib.Core.Path.{◌≡◌}
use mathlib.Core.List.{List}
use Prim.Native.Nat.{ℕ, ◌+◌, ◌*◌, ◌-◌}
use Rattle.steps.specs.Instances.{Instance}
use Rattle.steps.specs.Loops.{for, range}
use Rattle.steps.specs.code.Logs.{log_after}
use Rattle.lanes.specs.code.Lanes.{SameOn}
use Rattle.lanes.proofs.Turns.{Going}
use Rattle.pair_cross.specs.code.Twos.{frame_instances}
use Rattle.pair_cross.specs.code.Lively.{pair_turn, family_instances}
use Rattle.pair_cross.specs.declared.twos.Frame.TheVariants.{Unit}
use Rattle.pair_cross.proofs.pairs.pair_due.Given as goal

-- the instances of one turn
abbrev pub block : ℕ → ℕ → List Instance
block family nth = frame_instances (Unit (9 * family + nth))

abbrev pub invariant-loop-nth : goal.invariant-loop-nth
invariant-loop-nth l = Going (λ k. SameOn (9 * l.family + k)) (pair_turn l.givens.cells l.family) l.initial.masks l.masks l.nth × (log_after l.givens.cells (for (range (9 - l.nth) l.nth) (block l.family)) l.masks l.log ≡ log_after l.givens.cells (family_instances l.family) l.initial.masks l.initial.log)
