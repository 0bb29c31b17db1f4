-- The move's answer, coded; the record stands as it wrote it.
use lib.ListN.{length}
use mathlib.Core.Path.{sym, subst}
use Prim.Native.Nat.{ℕ}
use lib.IntN.{pos}
use Rattle.stops.specs.Answer.{Answer, map}
use Rattle.sudoku.specs.Records.{moved_from}
use Rattle.sudoku.specs.code.Fitting.{Fitting}
use Rattle.sudoku.proofs.Fitting.{move-fits}
use Rattle.sudoku.proofs.sudoku_move_record.Goals as goal

pub of_counted-requires : goal.of_counted-requires
of_counted-requires c =
    let a = c.args in
    subst (λ (x : Answer ℕ). Fitting (map pos x)) (sym c.move_either.ensures.0) (move-fits (moved_from a.back) a.bytes.now (length a.moved.now))
