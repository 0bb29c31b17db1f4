use mathlib.Core.Path.{refl, ap, ◌∙◌}
use native.Mathlib.Omega.{arith}
use Rattle.candidates.specs.Masks.{union}
use Rattle.grid.proofs.Lists.{turn-done, turns-over}
use Rattle.lone_place.specs.code.Due.{due_row}
use Rattle.lone_place.proofs.lones.due_row.Invariants.{turn}
use Rattle.lone_place.proofs.lones.due_row.Goals as goal

pub loop-nth-init : goal.loop-nth-init
unfolding due_row
loop-nth-init c = (omega arith, refl)

pub loop-nth-preserved : goal.loop-nth-preserved
loop-nth-preserved c =
    let l = c.loop-nth in
    let a = c.args in
    (omega arith, turn-done (turn a.masks.now a.near.now a.row) 9 l.nth (omega arith) (c.join-due.ensures ∙ ap (union l.due) c.due_flag.ensures) l.invariant.1)

pub returns : goal.returns
returns c =
    let a = c.args in
    turns-over (turn a.masks.now a.near.now a.row) 9 c.loop-nth.nth c.loop-nth-test.false c.loop-nth.invariant.1
