-- `board::fresh::join_row` meets its contract. The invariant: the cells that are left still join all that the row is given. Assumes nothing.
use mathlib.Core.Path.{◌≡◌}
use Prim.Native.Nat.{◌-◌, ◌≤◌}
use Rattle.grid.specs.Lists.{each, range}
use Rattle.board.specs.code.Fresh.{join_given, join_row}
use Rattle.board.proofs.fresh.join_row.Given as goal

abbrev pub invariant-loop-col : goal.invariant-loop-col
invariant-loop-col l = (l.col ≤ 9) × (each (join_given l.givens l.row) (range (9 - l.col) l.col) l.sets ≡ join_row l.givens l.row l.initial.sets)
