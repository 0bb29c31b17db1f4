-- What the search reports, as numbers and as bytes in what was lent.
use mathlib.Core.Path.{ap, ◌∙◌}
use native.Mathlib.Omega.{arith}
use Prim.Native.Nat.{ℕ}
use Rattle.board.specs.Boards.{handed}
use Rattle.sudoku.specs.Steps.{report_bytes, values_code}
use Rattle.sudoku.proofs.Fitting.{place-fits}
use Rattle.sudoku.proofs.StepNumbers.{found-few, found-list, found-count, found-put}
use Rattle.sudoku.proofs.step_calls.reporting.Goals as goal

pub of_values-requires : goal.of_values-requires
of_values-requires c =
    let a = c.args in
    let b = handed a.clues.now a.entries.now a.masks.now in
    let e = c.in-Ok.ensures in
    (found-few a.search b e.answer_value c.new-found.ensures e.reports_after, place-fits (omega arith), place-fits (omega arith))

pub returns-in-Ok : goal.returns-in-Ok
returns-in-Ok c =
    let a = c.args in
    let b = handed a.clues.now a.entries.now a.masks.now in
    let e = c.in-Ok.ensures in
    let new = c.new-found.ensures in
    let put = found-put a.search b e.answer_value a.number a.reports.now in (
      c.of_values.ensures ∙ ap (λ (n : ℕ). values_code a.number c.in-Ok.made n 0 0) (found-count a.search b e.answer_value new e.reports_after) ∙ put.0,
      e.masks_after,
      c.put_bytes.ensures ∙ ap report_bytes (found-list a.search b e.answer_value new e.reports_after) ∙ put.1,
    )
