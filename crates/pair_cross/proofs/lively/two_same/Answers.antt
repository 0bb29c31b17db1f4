use mathlib.Core.Path.{refl, ap, ◌∙◌}
use native.Mathlib.Omega.{arith}
use Rattle.candidates.specs.Masks.{union}
use Rattle.grid.proofs.Lists.{turn-done, turns-over}
use Rattle.pair_cross.specs.code.Lively.{twins}
use Rattle.pair_cross.proofs.lively.two_same.Invariants.{turn}
use Rattle.pair_cross.proofs.lively.two_same.Goals as goal

pub loop-line-init : goal.loop-line-init
unfolding twins
loop-line-init c = refl

pub loop-line-preserved : goal.loop-line-preserved
loop-line-preserved c =
    let l = c.loop-line in
    turn-done (turn c.args.lines.now) 8 l.line (omega arith) (c.join-found.ensures ∙ ap (union l.found) c.same_above.ensures) l.invariant

pub returns : goal.returns
returns c = turns-over (turn c.args.lines.now) 8 c.loop-line.line (omega arith) c.loop-line.invariant
