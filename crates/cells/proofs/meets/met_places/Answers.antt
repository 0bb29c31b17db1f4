-- `cells::meets::met_places` meets its contract: the table of the source is the one of the definition. Assumes nothing.
use mathlib.Core.Path.{refl, sym}
use mathlib.Core.List.{[], ◌∷◌}
use lib.ListN.{get_or-eq_default}
use Rattle.cells.specs.code.Meets.{met_places}
use Rattle.cells.proofs.meets.met_places.Goals as goal

pub returns-then-nth-lt6 : goal.returns-then-nth-lt6
unfolding met_places
returns-then-nth-lt6 c = refl

pub returns : goal.returns
unfolding met_places
returns c = sym (get_or-eq_default (7 ∷ 56 ∷ 448 ∷ 73 ∷ 146 ∷ 292 ∷ []) 0 c.if-nth-lt6.false)
