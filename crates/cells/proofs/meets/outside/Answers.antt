-- `cells::meets::outside` meets its contract. Assumes nothing.
use mathlib.Core.Path.{ap, ◌∙◌}
use Rattle.candidates.specs.Masks.{minus}
use Rattle.cells.specs.code.Meets.{met_places, outside}
use Rattle.cells.proofs.meets.outside.Goals as goal

pub returns : goal.returns
unfolding outside
returns c = c.lose.ensures ∙ ap (minus 511) (c.met_places.ensures ∙ ap met_places c.met_back.ensures)
