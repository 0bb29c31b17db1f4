use mathlib.Core.Path.{refl, ap, ◌∙◌}
use native.Mathlib.Omega.{arith}
use Rattle.candidates.specs.Masks.{union}
use Rattle.grid.proofs.Lists.{turn-done, turns-over}
use Rattle.cells.specs.code.Unions.{joined_at}
use Rattle.cells.proofs.unions.join_places.Invariants.{turn}
use Rattle.cells.proofs.unions.join_places.Goals as goal

pub loop-place-init : goal.loop-place-init
unfolding joined_at
loop-place-init c = (omega arith, refl)

pub loop-place-preserved : goal.loop-place-preserved
loop-place-preserved c =
    (omega arith, turn-done (turn c.args.nine.now c.args.places) 9 c.loop-place.place (omega arith) (c.join-held.ensures ∙ ap (union c.loop-place.held) c.mask_if.ensures) c.loop-place.invariant.1)

pub returns : goal.returns
returns c =
    let a = c.args in
    turns-over (turn a.nine.now a.places) 9 c.loop-place.place c.loop-place-test.false c.loop-place.invariant.1
