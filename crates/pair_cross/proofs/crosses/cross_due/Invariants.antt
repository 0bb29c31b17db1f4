-- `pair_cross::crosses::cross_due` meets its contract. The invariant: the digits that are left still make the whole, and stand as they stood. Assumes nothing.
use mathlib.Core.Path.{◌≡◌}
use mathlib.Core.List.{List}
use Prim.Native.Nat.{ℕ, ◌*◌, ◌-◌}
use Rattle.steps.specs.Instances.{Instance}
use Rattle.steps.specs.Loops.{for, range}
use Rattle.steps.specs.code.Logs.{log_after}
use Rattle.lanes.specs.code.Lanes.{Alike}
use Rattle.lanes.proofs.Turns.{Going}
use Rattle.pair_cross.specs.code.Twos.{frame_taken, frame_instances, cross_instances}
use Rattle.pair_cross.specs.declared.twos.Frame.TheVariants.{Lines}
use Rattle.pair_cross.proofs.crosses.cross_due.Given as goal

-- the instances of one turn
abbrev pub block : ℕ → ℕ → List Instance
block half digit = frame_instances (Lines (9 * half) digit)

abbrev pub invariant-loop-digit : goal.invariant-loop-digit
invariant-loop-digit l = Going Alike (λ d. frame_taken l.givens.cells (Lines (9 * l.half) d)) l.initial.masks l.masks l.digit × (log_after l.givens.cells (for (range (9 - l.digit) l.digit) (block l.half)) l.masks l.log ≡ log_after l.givens.cells (cross_instances (9 * l.half)) l.initial.masks l.initial.log)
