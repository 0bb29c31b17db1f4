use Rattle.std.proofs.Common.{refl, sym}
use Rattle.stops.proofs.Answers.{passed-on}
use Rattle.board.specs.Boards.{open_with_of}
use Rattle.board.proofs.Board.with_entries.Goals as goal

pub returns-in_err-check_clues : goal.returns-in_err-check_clues
unfolding open_with_of
returns-in_err-check_clues c = rw (passed-on _ c.from_residual.ensures.1, sym c.in_err-check_clues.ensures) refl

pub returns-in_err-check_entries : goal.returns-in_err-check_entries
unfolding open_with_of
returns-in_err-check_entries c =
    rw (passed-on _ c.from_residual-in_err-check_entries.ensures.1, sym c.in_ok-check_clues.ensures, sym c.in_err-check_entries.ensures) refl

pub returns : goal.returns
unfolding open_with_of
returns c = rw (sym c.in_ok-check_clues.ensures, sym c.in_ok-check_entries.ensures, c.fresh_board.ensures) refl
