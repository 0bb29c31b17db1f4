use Rattle.std.proofs.Common.{refl, sym}
use Rattle.stops.proofs.Answers.{passed-on}
use Rattle.record.specs.Moves.{move_of, moved_of}
use Rattle.record.proofs.move_record.Goals as goal

pub returns-in_err-board : goal.returns-in_err-board
unfolding move_of moved_of
returns-in_err-board c = rw (passed-on _ c.from_residual.ensures.1, sym c.in_err-board.ensures) (refl, refl)

pub returns : goal.returns
unfolding move_of moved_of
returns c = rw (sym c.in_ok-board.ensures) c.write_checked.ensures
