-- `lone_place::places::due_of` meets its contract. Assumes nothing.
use mathlib.Core.Path.{ap, ap₂, ◌∙◌}
use Rattle.candidates.specs.Masks.{minus}
use Rattle.lone_place.specs.code.Due.{due_of}
use Rattle.lone_place.proofs.places.due_of.Goals as goal

pub returns : goal.returns
unfolding due_of
returns c =
    c.lose-2.ensures
    ∙ ap₂ minus (c.lose.ensures ∙ ap (minus 511) c.shared.ensures) (c.lose-single.ensures ∙ ap₂ minus c.join_all.ensures c.several.ensures)
