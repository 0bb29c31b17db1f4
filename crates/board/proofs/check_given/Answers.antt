-- `board::check_given` meets its contract. Assumes nothing.
use mathlib.Core.Path.{◌∙◌}
use Rattle.board.specs.Boards.{handed}
use Rattle.board.proofs.Checks.{checks}
use Rattle.board.proofs.check_given.Goals as goal

pub returns : goal.returns
returns c =
    let a = c.args in
    c.check_beside.ensures ∙ checks (handed a.clues.now a.entries.now a.masks.now) c.requires c.fresh_masks-fresh.ensures
