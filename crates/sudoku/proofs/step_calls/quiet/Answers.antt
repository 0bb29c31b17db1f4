-- What the quiet step tells as numbers, and no reports in what was lent.
use mathlib.Core.Path.{◌∙◌}
use native.Mathlib.Omega.{arith}
use Rattle.board.specs.Boards.{handed}
use Rattle.calls.specs.code.QuietSteps.{quiet_call}
use Rattle.sudoku.proofs.Fitting.{place-fits}
use Rattle.sudoku.proofs.StepNumbers.{answer-fits, told-fits, told-put}
use Rattle.sudoku.proofs.step_calls.quiet.Goals as goal

pub of_values-requires : goal.of_values-requires
of_values-requires c =
    let a = c.args in
    let b = handed a.clues.now a.entries.now a.masks.now in
    let full = c.whole.ensures in
    let fits = told-fits a.step b (answer-fits b full.0 full.1 full.2 (quiet_call a.step)) c.in-Ok.ensures.told in
    (place-fits (omega arith), fits.0, fits.1)

pub returns-in-Ok : goal.returns-in-Ok
returns-in-Ok c =
    let a = c.args in
    let b = handed a.clues.now a.entries.now a.masks.now in
    let e = c.in-Ok.ensures in
    let put = told-put a.step b e.told a.number a.reports.now in
    (c.of_values.ensures ∙ put.0, e.masks_after, put.1)
