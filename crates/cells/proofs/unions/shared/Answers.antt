use mathlib.Core.Path.{refl, sym, ap, ◌∙◌}
use native.Mathlib.Omega.{arith}
use Rattle.candidates.specs.Masks.{union}
use Rattle.cells.specs.code.Unions.{shared_of}
use Rattle.cells.proofs.Shared.{shared-on, shared-end}
use Rattle.cells.proofs.unions.shared.Goals as goal

pub loop-mask-init : goal.loop-mask-init
unfolding shared_of
loop-mask-init c = (omega arith, refl)

pub loop-mask-preserved : goal.loop-mask-preserved
loop-mask-preserved c =
    let nine = c.args.nine.now in
    (omega arith, shared-on nine c.loop-mask.mask-index c.loop-mask.seen c.loop-mask.both (omega arith) c.join-seen.ensures (c.join-both.ensures ∙ ap (union c.loop-mask.both) c.meet.ensures) ∙ c.loop-mask.invariant.1)

pub returns : goal.returns
returns c =
    sym (shared-end c.args.nine.now c.loop-mask.mask-index c.loop-mask.seen c.loop-mask.both c.loop-mask-test.false) ∙ c.loop-mask.invariant.1
