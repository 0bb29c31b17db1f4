use mathlib.Core.Path.{refl, ap, ◌∙◌}
use Prim.Native.Nat.{ℕ}
use native.Mathlib.Omega.{arith}
use lib.ListN.{replicate}
use Rattle.grid.proofs.Lists.{turn-done, turns-over}
use Rattle.steps.specs.Loops.{each, range}
use Rattle.sudoku.specs.Steps.{put_report, report_bytes}
use Rattle.sudoku.proofs.step_calls.put_bytes.Goals as goal

pub loop-report-preserved : goal.loop-report-preserved
loop-report-preserved c =
    let a = c.args in (
      omega arith,
      omega arith,
      turn-done (put_report a.reports.now.cells a.reports.now.digits) c.used-count.result c.loop-report.report (omega arith) refl c.loop-report.invariant.2,
    )

pub returns : goal.returns
unfolding report_bytes
returns c =
    let a = c.args in
    turns-over (put_report a.reports.now.cells a.reports.now.digits) c.used-count.result c.loop-report.report c.loop-report-test.false c.loop-report.invariant.2
    ∙ ap (λ (k : ℕ). each (put_report a.reports.now.cells a.reports.now.digits) (range k 0) (replicate 648 0)) c.used-count.ensures
