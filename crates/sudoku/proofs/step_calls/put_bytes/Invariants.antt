-- The invariant: the reports that are left still make the whole.
use mathlib.Core.Path.{◌≡◌}
use Prim.Native.Nat.{◌-◌, ◌≤◌}
use lib.ListN.{replicate}
use Rattle.steps.specs.Loops.{each, range}
use Rattle.sudoku.specs.Steps.{put_report}
use Rattle.sudoku.proofs.step_calls.put_bytes.Given as goal

abbrev pub invariant-loop-report : goal.invariant-loop-report
invariant-loop-report l =
    (l.report ≤ l.count) × (l.count ≤ 324)
    × (each (put_report l.reports.cells l.reports.digits) (range (l.count - l.report) l.report) l.bytes ≡ each (put_report l.reports.cells l.reports.digits) (range l.count 0) (replicate 648 0))
