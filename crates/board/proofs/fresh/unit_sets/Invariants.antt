-- `board::fresh::unit_sets` meets its contract. Assumes nothing.
use mathlib.Core.Path.{◌≡◌}
use Prim.Native.Nat.{◌-◌, ◌≤◌}
use Rattle.grid.specs.Lists.{each, range}
use Rattle.board.specs.code.Fresh.{join_row, unit_sets}
use Rattle.board.proofs.fresh.unit_sets.Given as goal

abbrev pub invariant-loop-row : goal.invariant-loop-row
invariant-loop-row l = (l.row ≤ 9) × (each (join_row l.givens) (range (9 - l.row) l.row) l.sets ≡ unit_sets l.givens)
