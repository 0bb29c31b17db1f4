use mathlib.Core.Path.{refl, ap, ◌∙◌}
use native.Mathlib.Omega.{arith}
use Rattle.candidates.specs.Masks.{union}
use Rattle.grid.proofs.Lists.{turn-done, turns-over}
use Rattle.pair_cross.specs.code.Search.{open_held}
use Rattle.pair_cross.proofs.search.open_held.Invariants.{turn}
use Rattle.pair_cross.proofs.search.open_held.Goals as goal

pub loop-line-init : goal.loop-line-init
unfolding open_held
loop-line-init c = refl

pub loop-line-preserved : goal.loop-line-preserved
loop-line-preserved c =
    let l = c.loop-line in
    let a = c.args in
    turn-done (turn a.held.now a.doors.now) 9 l.line (omega arith) (c.join-found.ensures ∙ ap (union l.found) c.meet.ensures) l.invariant

pub returns : goal.returns
returns c =
    let a = c.args in
    turns-over (turn a.held.now a.doors.now) 9 c.loop-line.line c.loop-line-test.false c.loop-line.invariant
