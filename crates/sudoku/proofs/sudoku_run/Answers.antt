-- The list's answer, coded, and its masks in what was lent.
use native.Mathlib.Omega.{arith}
use Rattle.sudoku.proofs.Fitting.{replay-fits}
use mathlib.Core.Path.{sym, subst}
use Rattle.sudoku.specs.code.Parts.{RunFits}
use Rattle.sudoku.proofs.sudoku_run.Goals as goal

pub put_run-requires : goal.put_run-requires
put_run-requires c =
    let a = c.args in
    subst RunFits (sym c.replay.ensures) (replay-fits a.clues.now a.entries.now a.steps.now (omega arith))
