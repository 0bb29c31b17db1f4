-- `card::layout::grid_line` meets its contract. Assumes nothing.
use Rattle.card.specs.Layout.{grid_label, grid_bytes}
use Rattle.card.proofs.Joins.{line-joined}
use Rattle.card.proofs.layout.grid_line.Goals as goal

pub returns : goal.returns
returns c =
    line-joined grid_label (grid_bytes c.args.masks.now) c.args.lines.now c.push_word.ensures c.push_grid.ensures c.push.ensures
