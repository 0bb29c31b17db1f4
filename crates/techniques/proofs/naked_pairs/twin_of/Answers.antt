use mathlib.Core.Path.{refl, ◌∙◌}
use native.Mathlib.Omega.{arith}
use Rattle.steps.specs.Boards.{at}
use Rattle.techniques.specs.code.NakedPairs.{twin_of}
use Rattle.techniques.proofs.NakedPairs.{twin-here, twin-on, twin-end}
use Rattle.techniques.proofs.naked_pairs.twin_of.Goals as goal

pub loop-second-init : goal.loop-second-init
unfolding twin_of
loop-second-init c = (omega arith, refl)

pub returns-then-nine-second-clause-found : goal.returns-then-nine-second-clause-found
returns-then-nine-second-clause-found c =
    let a = c.args in
    twin-here a.nine.now (at a.nine.now a.first) c.loop-second.second (omega arith) c.if-nine-second.true ∙ c.loop-second.invariant.1

pub loop-second-preserved : goal.loop-second-preserved
loop-second-preserved c =
    let a = c.args in
    (omega arith, twin-on a.nine.now (at a.nine.now a.first) c.loop-second.second (omega arith) c.if-nine-second.false ∙ c.loop-second.invariant.1)

pub returns-clause-found : goal.returns-clause-found
returns-clause-found c =
    let a = c.args in
    twin-end a.nine.now (at a.nine.now a.first) c.loop-second.second c.loop-second-test.false ∙ c.loop-second.invariant.1
