use mathlib.Core.Path.{refl, sym}
use Rattle.stops.proofs.Answers.{passed-on}
use Rattle.steps.specs.StepLists.{step_count, check_steps_of}
use Rattle.board.specs.Boards.{board_of}
use Rattle.step_lists.proofs.Checks.{few-steps, from-fresh}
use Rattle.step_lists.proofs.check_steps.Goals as goal

pub returns-in_err-check : goal.returns-in_err-check
unfolding check_steps_of
returns-in_err-check c = record {
  answer = rw (passed-on _ c.from_residual.ensures.1, sym c.in_err-check.ensures) refl;
  board = rw (sym c.in_err-check.ensures) refl;
}

pub returns-in_err-check_count : goal.returns-in_err-check_count
unfolding check_steps_of
returns-in_err-check_count c = record {
  answer = rw (passed-on _ c.from_residual-in_err-check_count.ensures.1, sym c.in_ok-check.ensures, sym c.in_err-check_count.ensures) refl;
  board = rw (sym c.in_ok-check.ensures, sym c.in_err-check_count.ensures) refl;
}

pub follow_steps-requires : goal.follow_steps-requires
follow_steps-requires c = few-steps (step_count c.args.steps.now) c.in_ok-check_count.ensures

pub returns-in_err-board : goal.returns-in_err-board
unfolding check_steps_of
returns-in_err-board c =
    let steps = from-fresh (board_of c.args.board.now) c.args.steps.now c.givens_of-givens.ensures c.fresh_masks.ensures c.in_err-board.ensures in record {
      answer = rw (passed-on _ c.from_residual-in_err-board.ensures.1, sym c.in_ok-check.ensures, sym c.in_ok-check_count.ensures, sym steps) refl;
      board = rw (sym c.in_ok-check.ensures, sym c.in_ok-check_count.ensures, sym steps) refl;
    }

pub returns : goal.returns
unfolding check_steps_of
returns c =
    let steps = from-fresh (board_of c.args.board.now) c.args.steps.now c.givens_of-givens.ensures c.fresh_masks.ensures c.in_ok-board.ensures in record {
      answer = rw (sym c.in_ok-check.ensures, sym c.in_ok-check_count.ensures, sym steps) refl;
      board = rw (sym c.in_ok-check.ensures, sym c.in_ok-check_count.ensures, sym steps) refl;
    }
