use mathlib.Core.Path.{refl, ap, ◌∙◌}
use Prim.Native.Nat.{ℕ}
use native.Mathlib.Omega.{arith}
use Rattle.candidates.specs.Masks.{union}
use Rattle.grid.proofs.Lists.{turn-done, turns-over}
use Rattle.steps.specs.Boards.{at}
use Rattle.pair_cross.specs.code.Lively.{twin, twins_above}
use Rattle.pair_cross.proofs.lively.same_above.Invariants.{turn}
use Rattle.pair_cross.proofs.lively.same_above.Goals as goal

pub loop-other-init : goal.loop-other-init
unfolding twins_above
loop-other-init c = refl

pub loop-other-preserved : goal.loop-other-preserved
loop-other-preserved c =
    let l = c.loop-other in
    let a = c.args in
    turn-done (turn a.lines.now a.line) 9 l.other (omega arith) (c.join-found.ensures ∙ ap (union l.found) (c.same.ensures ∙ ap (λ (x : ℕ). twin x (at a.lines.now l.other)) c.few-held.ensures)) l.invariant

pub returns : goal.returns
returns c =
    let a = c.args in
    turns-over (turn a.lines.now a.line) 9 c.loop-other.other c.loop-other-test.false c.loop-other.invariant
