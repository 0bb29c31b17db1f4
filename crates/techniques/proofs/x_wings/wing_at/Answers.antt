-- `techniques::x_wings::wing_at` meets its contract. Assumes nothing.
use mathlib.Core.Path.{ap, ◌∙◌}
use Prim.Native.Nat.{◌+◌}
use native.Mathlib.Omega.{arith}
use Rattle.candidates.proofs.Counts.{lowest-le}
use Rattle.steps.specs.Boards.{is_open}
use Rattle.cells.specs.code.Places.{lose_places}
use Rattle.techniques.proofs.XWings.{across-le, wing-lost, wing-kept}
use Rattle.techniques.proofs.x_wings.wing_at.Goals as goal

pub overflow_add-across : goal.overflow_add-across
overflow_add-across c =
    let a = c.args in
    omega (arith, c.across-across.ensures, across-le a.lines, c.lowest_digit.ensures, lowest-le a.spots)

pub overflow_add-across-then-spots-others : goal.overflow_add-across-then-spots-others
overflow_add-across-then-spots-others c =
    omega (arith, c.across-across.ensures, across-le c.args.lines, c.lowest_digit-then-spots-others.ensures, lowest-le c.lose_lowest.result)

pub returns-then-spots-others : goal.returns-then-spots-others
returns-then-spots-others c =
    let a = c.args in
    c.lose_places-then-spots-others.ensures.masks_after
    ∙ ap (lose_places (is_open a.givens.now) (c.across-across.result + c.lowest_digit-then-spots-others.result) c.all_but-rest.result c.digit_mask-lost.result) c.lose_places.ensures.masks_after
    ∙ wing-lost a.givens.now a.lines a.digit a.first a.second a.spots a.others a.masks.now c.across-across.ensures c.lowest_digit.ensures
    c.lose_lowest.ensures c.lowest_digit-then-spots-others.ensures c.all_but-rest.ensures c.digit_mask-lost.ensures c.if-spots-others.true

pub returns-else-spots-others : goal.returns-else-spots-others
returns-else-spots-others c =
    let a = c.args in
    wing-kept a.givens.now a.lines a.digit a.first a.second a.spots a.others a.masks.now c.if-spots-others.false
