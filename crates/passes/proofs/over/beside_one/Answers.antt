use mathlib.Core.Path.{refl, ap, ◌∙◌}
use native.Mathlib.Omega.{arith}
use Rattle.candidates.specs.Masks.{union, tail}
use Rattle.grid.proofs.Lists.{turn-done, turns-over}
use Rattle.passes.specs.code.Over.{beside_one}
use Rattle.passes.proofs.over.beside_one.Invariants.{turn}
use Rattle.passes.proofs.over.beside_one.Goals as goal

pub loop-mask-init : goal.loop-mask-init
unfolding beside_one
loop-mask-init c = refl

pub loop-mask-preserved : goal.loop-mask-preserved
loop-mask-preserved c =
    let did = c.join-more.ensures ∙ ap (union c.loop-mask.more) (c.lose_lowest.ensures ∙ ap tail c.meet.ensures) in
    turn-done (turn c.args.masks.now) 81 c.loop-mask.mask-index (omega arith) did c.loop-mask.invariant

pub returns : goal.returns
returns c = turns-over (turn c.args.masks.now) 81 c.loop-mask.mask-index c.loop-mask-test.false c.loop-mask.invariant
