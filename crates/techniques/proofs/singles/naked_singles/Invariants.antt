-- `techniques::singles::naked_singles` meets its contract. The invariant: the cells that are left still make all reports. Assumes nothing.
use mathlib.Core.Path.{◌≡◌}
use mathlib.Core.List.{List}
use Prim.Native.Nat.{ℕ, ◌+◌, ◌-◌, ◌≤◌}
use Rattle.steps.specs.Loops.{each, range}
use Rattle.steps.specs.Singles.{naked_at, naked_singles}
use Rattle.techniques.specs.declared.singles.Reports.{Reports}
use Rattle.techniques.specs.code.Pushes.{append}
use Rattle.techniques.proofs.singles.naked_singles.Given as goal

-- one turn of the loop
abbrev pub turn : List ℕ → List ℕ → ℕ → Reports → Reports
turn g m c q = append (naked_at g m c) q

abbrev pub invariant-loop-cell : goal.invariant-loop-cell
invariant-loop-cell l =
    (l.cell ≤ 81) × (l.reports.count ≤ l.initial.reports.count + l.cell)
    × (each (turn l.givens l.masks) (range (81 - l.cell) l.cell) l.reports ≡ append (naked_singles l.givens l.masks) l.initial.reports)
