-- `techniques::singles::hidden_singles` meets its contract. The invariant: the units that are left still make all reports. Assumes nothing.
use mathlib.Core.Path.{◌≡◌}
use mathlib.Core.List.{List}
use Prim.Native.Nat.{ℕ, ◌+◌, ◌-◌, ◌*◌, ◌≤◌}
use Rattle.steps.specs.Loops.{each, range}
use Rattle.steps.specs.Singles.{hidden_singles}
use Rattle.techniques.specs.declared.singles.Reports.{Reports}
use Rattle.techniques.specs.code.Pushes.{append}
use Rattle.techniques.specs.code.Singles.{hidden_in}
use Rattle.techniques.proofs.singles.hidden_singles.Given as goal

-- one turn of the loop
abbrev pub turn : List ℕ → List ℕ → ℕ → Reports → Reports
turn g m u q = append (hidden_in g m u) q

abbrev pub invariant-loop-unit : goal.invariant-loop-unit
invariant-loop-unit l =
    (l.unit ≤ 27) × (l.reports.count ≤ l.initial.reports.count + 9 * l.unit)
    × (each (turn l.givens l.masks) (range (27 - l.unit) l.unit) l.reports ≡ append (hidden_singles l.givens l.masks) l.initial.reports)
