use mathlib.Core.Path.{refl}
use native.Mathlib.Omega.{arith}
use Rattle.grid.proofs.Lists.{turn-done, turns-over}
use Rattle.board.specs.code.Fresh.{unit_sets}
use Rattle.board.proofs.fresh.unit_sets.Goals as goal

pub loop-row-init : goal.loop-row-init
unfolding unit_sets
loop-row-init c = (omega arith, refl)

pub loop-row-preserved : goal.loop-row-preserved
loop-row-preserved c =
    (omega arith, turn-done _ 9 c.loop-row.row (omega arith) c.join_row.ensures c.loop-row.invariant.1)

pub returns : goal.returns
returns c = turns-over _ 9 c.loop-row.row c.loop-row-test.false c.loop-row.invariant.1
