-- `lone_place::places::held_in` meets its contract. Assumes nothing.
use mathlib.Core.Path.{ap, ◌∙◌}
use mathlib.Core.List.{List}
use Prim.Native.Nat.{ℕ}
use Rattle.cells.specs.code.Places.{spots_in}
use Rattle.lanes.specs.code.Lanes.{lane_masks, lane_of}
use Rattle.lone_place.proofs.UnitLanes.{lane-spots}
use Rattle.lone_place.proofs.places.held_in.Goals as goal

pub returns : goal.returns
returns c =
    let a = c.args in
    c.places_of.ensures ∙ ap (λ (nine : List ℕ). spots_in nine a.digit) c.unit_lane-nine.ensures
    ∙ ap (λ (p : List ℕ). spots_in (lane_masks p (lane_of a.unit)) a.digit) a.laid.now.in_lanes ∙ lane-spots a.laid.now.masks a.unit c.requires.0 a.digit c.requires.1
