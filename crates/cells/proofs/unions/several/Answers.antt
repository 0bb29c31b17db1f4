use mathlib.Core.Path.{refl, ap, ◌∙◌}
use native.Mathlib.Omega.{arith}
use Rattle.candidates.specs.Masks.{union}
use Rattle.grid.proofs.Lists.{turn-done, turns-over}
use Rattle.cells.specs.code.Unions.{several_of}
use Rattle.cells.proofs.unions.several.Invariants.{turn}
use Rattle.cells.proofs.unions.several.Goals as goal

pub loop-mask-init : goal.loop-mask-init
unfolding several_of
loop-mask-init c = (omega arith, refl)

pub loop-mask-preserved : goal.loop-mask-preserved
loop-mask-preserved c =
    (omega arith, turn-done (turn c.args.nine.now) 9 c.loop-mask.mask-index (omega arith) (c.join-held.ensures ∙ ap (union c.loop-mask.held) c.unless_one.ensures) c.loop-mask.invariant.1)

pub returns : goal.returns
returns c = turns-over (turn c.args.nine.now) 9 c.loop-mask.mask-index c.loop-mask-test.false c.loop-mask.invariant.1
