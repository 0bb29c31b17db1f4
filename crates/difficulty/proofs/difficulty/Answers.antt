use mathlib.Core.Path.{sym, ap, subst, ◌∙◌}
use Rattle.steps.specs.Boards.{Givens}
use Rattle.steps.proofs.Lists.{board-givens}
use Rattle.board.specs.Boards.{board_of}
use Rattle.difficulty.specs.code.Rates.{rate_of}
use Rattle.difficulty.proofs.Figures.{rated}
use Rattle.difficulty.proofs.difficulty.Goals as goal

pub rate-requires : goal.rate-requires
rate-requires c =
    (subst Givens (sym c.givens_of-givens.ensures) (board-givens (board_of c.args.board.now)), c.fresh_masks.ensures)

pub returns : goal.returns
returns c =
    c.rate.ensures ∙ ap rate_of c.givens_of-givens.ensures ∙ rated (board_of c.args.board.now) c.in_ok-check_given.ensures
