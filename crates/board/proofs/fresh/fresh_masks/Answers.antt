use mathlib.Core.Path.{ap, ◌∙◌}
use mathlib.Core.List.{List}
use Prim.Native.Nat.{ℕ}
use native.Mathlib.Omega.{arith}
use lib.ListN.{replicate}
use Rattle.grid.specs.Lists.{each, range}
use Rattle.grid.proofs.Lists.{turn-done, turns-over}
use Rattle.board.specs.code.Fresh.{fresh_row}
use Rattle.board.proofs.Taken.{fresh-rows}
use Rattle.board.proofs.fresh.fresh_masks.Goals as goal

pub loop-row-init : goal.loop-row-init
loop-row-init c =
    (omega arith, ap (λ (s : List ℕ). each (fresh_row c.args.givens.now s) (range 9 0) (replicate 81 0)) c.unit_sets-sets.ensures ∙ fresh-rows c.args.givens.now)

pub loop-row-preserved : goal.loop-row-preserved
loop-row-preserved c =
    (omega arith, turn-done _ 9 c.loop-row.row (omega arith) c.fresh_row.ensures c.loop-row.invariant.1)

pub returns : goal.returns
returns c = turns-over _ 9 c.loop-row.row c.loop-row-test.false c.loop-row.invariant.1
