-- `techniques::singles::hidden_in` meets its contract. The invariant: the digits that are left still make all reports of the unit. Assumes nothing.
use mathlib.Core.Path.{◌≡◌}
use mathlib.Core.List.{List}
use Prim.Native.Nat.{ℕ, ◌+◌, ◌-◌, ◌≤◌}
use Rattle.steps.specs.Loops.{each, range}
use Rattle.cells.specs.code.Places.{spots_in}
use Rattle.techniques.specs.declared.singles.Reports.{Reports}
use Rattle.techniques.specs.code.Pushes.{append}
use Rattle.techniques.specs.code.Singles.{hidden_at, hidden_in}
use Rattle.techniques.proofs.singles.hidden_in.Given as goal

-- one turn of the loop
abbrev pub turn : ℕ → List ℕ → ℕ → Reports → Reports
turn u nine d q = append (hidden_at u (spots_in nine d) d) q

abbrev pub invariant-loop-digit : goal.invariant-loop-digit
invariant-loop-digit l =
    (l.digit ≤ 9) × (l.reports.count ≤ l.initial.reports.count + l.digit)
    × (each (turn l.unit l.nine) (range (9 - l.digit) l.digit) l.reports ≡ append (hidden_in l.givens l.masks l.unit) l.initial.reports)
