use mathlib.Core.Path.{refl, sym, ap, ◌∙◌}
use lib.IntN.{ℤ}
use mir.Facts.{to_z-of_z}
use Rattle.stops.proofs.Answers.{passed-on}
use Rattle.steps.specs.Calls.{opened_with}
use Rattle.steps.specs.Entries.{enter, entries_after, entry_answer}
use Rattle.board.specs.Boards.{board_of}
use Rattle.board.proofs.entries.enter.Goals as goal

pub returns-in_err-check : goal.returns-in_err-check
unfolding entry_answer
returns-in_err-check c = record {
  answer = rw (passed-on _ c.from_residual.ensures.1, sym c.in_err-check.ensures) refl;
  board = rw (sym c.in_err-check.ensures) refl;
}

pub returns-in_err-check_enter : goal.returns-in_err-check_enter
unfolding entry_answer
returns-in_err-check_enter c =
    let b = board_of c.args.board.now in
    let stopped = c.in_err-check_enter.ensures ∙ ap (λ (z : ℤ). entries_after (enter c.args.cell z) b.clues b.entries) (to_z-of_z c.ranges.digit) in record {
      answer = rw (passed-on _ c.from_residual-in_err-check_enter.ensures.1, sym c.in_ok-check.ensures, sym stopped) refl;
      board = rw (sym c.in_ok-check.ensures, sym stopped) refl;
    }

pub returns : goal.returns
unfolding entry_answer
returns c =
    let b = board_of c.args.board.now in
    let same = to_z-of_z c.ranges.digit in
    let went = c.in_ok-check_enter.ensures ∙ ap (λ (z : ℤ). entries_after (enter c.args.cell z) b.clues b.entries) same in
    let left = c.fresh_board.ensures ∙ ap (opened_with b.clues) c.with_entry.ensures in record {
      answer = rw (left, sym c.in_ok-check.ensures, sym went) refl;
      board = rw (left, sym c.in_ok-check.ensures, sym went) refl;
    }
