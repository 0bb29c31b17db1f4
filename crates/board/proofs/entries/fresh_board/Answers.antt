-- `board::entries::fresh_board` meets its contract. Assumes nothing.
use mathlib.Core.Path.{ap, ◌∙◌}
use Rattle.steps.specs.Boards.{fresh}
use Rattle.steps.specs.Calls.{opened_with}
use Rattle.board.specs.Boards.{handed}
use Rattle.board.proofs.entries.fresh_board.Goals as goal

pub returns : goal.returns
unfolding opened_with
returns c = ap (handed _ _) (c.fresh_masks-masks.ensures ∙ ap fresh c.givens_of.ensures)
