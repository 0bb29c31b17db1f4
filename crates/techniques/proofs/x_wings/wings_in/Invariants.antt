-- `techniques::x_wings::wings_in` meets its contract. The invariant: the digits that are left still make the whole, and of them the masks hold what they held
-- when the sets were made. Assumes nothing.
use mathlib.Core.Path.{◌≡◌}
use Prim.Native.Nat.{ℕ, ◌-◌, ◌≤◌}
use Rattle.steps.specs.Loops.{each, range, up_to}
use Rattle.techniques.specs.code.XWings.{wing_digit}
use Rattle.techniques.proofs.WingsDue.{Alike}
use Rattle.techniques.proofs.x_wings.wings_in.Given as goal

abbrev pub invariant-loop-digit : goal.invariant-loop-digit
invariant-loop-digit l = (l.digit ≤ 9) × (each (wing_digit l.givens l.lines) (range (9 - l.digit) l.digit) l.masks ≡ each (wing_digit l.givens l.lines) (up_to 9) l.initial.masks) × ((e : ℕ) → l.digit ≤ e → Alike e l.masks l.initial.masks)
