use mathlib.Core.Path.{refl, sym, ap, ◌∙◌}
use Rattle.stops.proofs.Answers.{passed-on}
use Rattle.steps.specs.Calls.{opened_with}
use Rattle.steps.specs.Entries.{entry_answer}
use Rattle.board.specs.Boards.{board_of}
use Rattle.board.proofs.entries.rub_out.Goals as goal

pub returns-in_err-check : goal.returns-in_err-check
unfolding entry_answer
returns-in_err-check c = record {
  answer = rw (passed-on _ c.from_residual.ensures.1, sym c.in_err-check.ensures) refl;
  board = rw (sym c.in_err-check.ensures) refl;
}

pub returns-in_err-check_rub_out : goal.returns-in_err-check_rub_out
unfolding entry_answer
returns-in_err-check_rub_out c = record {
  answer = rw (passed-on _ c.from_residual-in_err-check_rub_out.ensures.1, sym c.in_ok-check.ensures, sym c.in_err-check_rub_out.ensures) refl;
  board = rw (sym c.in_ok-check.ensures, sym c.in_err-check_rub_out.ensures) refl;
}

pub returns : goal.returns
unfolding entry_answer
returns c =
    let left = c.fresh_board.ensures ∙ ap (opened_with (board_of c.args.board.now).clues) c.with_entry.ensures in record {
      answer = rw (left, sym c.in_ok-check.ensures, sym c.in_ok-check_rub_out.ensures) refl;
      board = rw (left, sym c.in_ok-check.ensures, sym c.in_ok-check_rub_out.ensures) refl;
    }
