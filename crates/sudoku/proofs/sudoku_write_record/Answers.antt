-- The writer's answer, coded; the record stands as it wrote it.
use lib.ListN.{length}
use Rattle.board.specs.Boards.{handed}
use Rattle.sudoku.proofs.Fitting.{record-fits}
use mathlib.Core.Path.{sym, subst}
use Prim.Native.Nat.{ℕ}
use lib.IntN.{pos}
use Rattle.stops.specs.Answer.{Answer, map}
use Rattle.sudoku.specs.code.Fitting.{Fitting}
use Rattle.sudoku.proofs.sudoku_write_record.Goals as goal

pub of_counted-requires : goal.of_counted-requires
of_counted-requires c =
    let a = c.args in
    subst (λ (x : Answer ℕ). Fitting (map pos x)) (sym c.write_record.ensures.0) (record-fits (handed a.clues.now a.entries.now a.masks.now) (length a.bytes.now))
