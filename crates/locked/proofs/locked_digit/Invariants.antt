-- `locked::locked_digit` meets its contract. The invariant: those that are left still make the whole, of the masks and of the log, and the unit holds the digit where it did. Assumes nothing.
use mathlib.Core.Path.{◌≡◌}
use mathlib.Core.List.{List, [], ◌∷◌}
use Prim.Native.Nat.{ℕ, ◌-◌}
use Rattle.steps.specs.Loops.{each, for, range}
use Rattle.steps.specs.Instances.{Instance}
use Rattle.steps.specs.code.Logs.{log_after}
use Rattle.cells.specs.code.Meets.{meet_turn}
use Rattle.cells.specs.code.Places.{held_places}
use Rattle.locked.specs.code.Locked.{met_instance, digit_instances, locked_digit}
use Rattle.locked.proofs.locked_digit.Given as goal

abbrev pub block : ℕ → ℕ → ℕ → List Instance
block u d k = met_instance u d k ∷ []

abbrev pub invariant-loop-nth : goal.invariant-loop-nth
invariant-loop-nth l =
    (l.held ≡ held_places l.masks l.unit l.digit) × (each (meet_turn l.givens l.unit l.digit l.held) (range (l.nth-end - l.nth) l.nth) l.masks ≡ locked_digit l.givens l.unit l.digit l.initial.masks)
    × (log_after l.givens (for (range (l.nth-end - l.nth) l.nth) (block l.unit l.digit)) l.masks l.log ≡ log_after l.givens (digit_instances l.unit l.digit) l.initial.masks l.initial.log)
