-- `locked::locked_unit` meets its contract. The invariant: the digits that are left still make the whole, of the masks and of the log, and of them the masks hold what they held. Assumes nothing.
use mathlib.Core.Path.{◌≡◌}
use Prim.Native.Nat.{◌-◌}
use Rattle.steps.specs.Loops.{for, range}
use Rattle.steps.specs.code.Logs.{log_after}
use Rattle.lanes.specs.code.Lanes.{Alike}
use Rattle.lanes.proofs.Turns.{Going}
use Rattle.locked.specs.code.Locked.{digit_instances, unit_instances, locked_digit}
use Rattle.locked.proofs.locked_unit.Given as goal

abbrev pub invariant-loop-digit : goal.invariant-loop-digit
invariant-loop-digit l = Going Alike (locked_digit l.givens l.unit) l.initial.masks l.masks l.digit × (log_after l.givens (for (range (9 - l.digit) l.digit) (digit_instances l.unit)) l.masks l.log ≡ log_after l.givens (unit_instances l.unit) l.initial.masks l.initial.log)
