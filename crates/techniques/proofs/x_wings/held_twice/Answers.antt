use mathlib.Core.Path.{refl, sym, ap, ◌∙◌}
use native.Mathlib.Omega.{arith}
use Rattle.candidates.specs.Masks.{union}
use Rattle.techniques.specs.code.XWings.{twice_of}
use Rattle.techniques.proofs.HeldTwice.{twice-on, twice-end}
use Rattle.techniques.proofs.x_wings.held_twice.Goals as goal

pub loop-mask-init : goal.loop-mask-init
unfolding twice_of
loop-mask-init c = (omega arith, refl)

pub loop-mask-preserved : goal.loop-mask-preserved
loop-mask-preserved c =
    let s = c.loop-mask in
    let nine = c.args.nine.now in (
      omega arith,
      twice-on nine s.mask-index s.once s.twice s.more (omega arith) c.join-once.ensures (c.join-twice.ensures ∙ ap (union s.twice) c.meet-in-loop-mask.ensures)
          (c.join-more.ensures ∙ ap (union s.more) c.meet.ensures)
          ∙ s.invariant.1,
    )

pub returns : goal.returns
returns c =
    let s = c.loop-mask in
    c.lose.ensures ∙ sym (twice-end c.args.nine.now s.mask-index s.once s.twice s.more c.loop-mask-test.false) ∙ s.invariant.1
