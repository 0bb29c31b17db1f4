-- The writer's answer, coded; the text stands as it wrote it.
use native.Mathlib.Omega.{arith}
use lib.ListN.{length}
use Rattle.sudoku.proofs.Fitting.{text-fits}
use mathlib.Core.Path.{sym, subst}
use Prim.Native.Nat.{ℕ}
use lib.IntN.{pos}
use Rattle.stops.specs.Answer.{Answer, map}
use Rattle.sudoku.specs.code.Fitting.{Fitting}
use Rattle.sudoku.proofs.sudoku_write_text.Goals as goal

pub of_counted-requires : goal.of_counted-requires
of_counted-requires c =
    let a = c.args in
    subst (λ (x : Answer ℕ). Fitting (map pos x)) (sym c.write_text.ensures.0) (text-fits 81 a.clues.now (length a.text.now) (omega arith))
