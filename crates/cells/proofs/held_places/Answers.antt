-- `cells::held_places` meets its contract. Assumes nothing.
use mathlib.Core.Path.{ap, ◌∙◌}
use mathlib.Core.List.{List}
use Prim.Native.Nat.{ℕ}
use Rattle.cells.specs.code.Places.{spots_in, held_places}
use Rattle.cells.proofs.held_places.Goals as goal

pub returns : goal.returns
unfolding held_places
returns c = c.places_of.ensures ∙ ap (λ (nine : List ℕ). spots_in nine c.args.digit) c.all_masks-nine.ensures
