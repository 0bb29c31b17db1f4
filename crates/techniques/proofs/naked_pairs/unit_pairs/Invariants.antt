-- `techniques::naked_pairs::unit_pairs` meets its contract. The invariant: the nine masks are those of the unit, and the first places that are left still make the whole. Assumes nothing.
use mathlib.Core.Path.{◌≡◌}
use mathlib.Core.List.{List}
use Prim.Native.Nat.{ℕ, ◌-◌, ◌≤◌}
use Rattle.steps.specs.Loops.{each, range, above}
use Rattle.cells.specs.code.Places.{unit_masks}
use Rattle.techniques.specs.code.NakedPairs.{pair_at, unit_pairs}
use Rattle.techniques.proofs.naked_pairs.unit_pairs.Given as goal

-- one turn of the loop
abbrev pub turn : List ℕ → ℕ → ℕ → List ℕ → List ℕ
turn g u i m = each (pair_at g u i) (above i 9) m

abbrev pub invariant-loop-first : goal.invariant-loop-first
invariant-loop-first l = (l.first ≤ 9) × (l.nine ≡ unit_masks l.givens l.masks l.unit) × (each (turn l.givens l.unit) (range (9 - l.first) l.first) l.masks ≡ unit_pairs l.givens l.unit l.initial.masks)
