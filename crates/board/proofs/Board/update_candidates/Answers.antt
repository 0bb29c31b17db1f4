use Rattle.std.proofs.Common.{ap, ◌∙◌}
use Rattle.stops.proofs.Answers.{passed-on}
use Rattle.steps.specs.Calls.{left, outcome, update_candidates}
use Rattle.board.specs.Boards.{board_of}
use Rattle.board.proofs.Answered.{answers}
use Rattle.board.proofs.Checks.{checks}
use Rattle.board.proofs.Board.update_candidates.Goals as goal

pub returns-in_err-check_beside-clause-told : goal.returns-in_err-check_beside-clause-told
returns-in_err-check_beside-clause-told c =
    passed-on _ c.from_residual.ensures.1 ∙ c.in_err-check_beside.ensures ∙ checks (board_of c.args.self.now) c.givens_of-givens.ensures c.fresh_masks-fresh.ensures

pub returns-in_err-check_beside-clause-left : goal.returns-in_err-check_beside-clause-left
returns-in_err-check_beside-clause-left c =
    ap (left (board_of c.args.self.now)) (answers update_candidates (board_of c.args.self.now) (c.in_err-check_beside.ensures ∙ checks (board_of c.args.self.now) c.givens_of-givens.ensures c.fresh_masks-fresh.ensures))

pub returns-clause-told : goal.returns-clause-told
returns-clause-told c = c.in_ok-check_beside.ensures ∙ checks (board_of c.args.self.now) c.givens_of-givens.ensures c.fresh_masks-fresh.ensures

pub returns-clause-left : goal.returns-clause-left
unfolding outcome
returns-clause-left c =
    rw (c.fresh_masks-fresh.ensures, c.givens_of-givens.ensures)
    (ap (left (board_of c.args.self.now)) (answers update_candidates (board_of c.args.self.now) (c.in_ok-check_beside.ensures ∙ checks (board_of c.args.self.now) c.givens_of-givens.ensures c.fresh_masks-fresh.ensures)))
