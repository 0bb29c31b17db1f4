-- `lanes::put_row` meets its contract. The invariant: the cells before this one are laid out. Assumes nothing.
use Prim.Native.Nat.{◌+◌, ◌*◌, ◌≤◌}
use Rattle.lanes.specs.code.Lanes.{Partly}
use Rattle.lanes.proofs.put_row.Given as goal

abbrev pub invariant-loop-col : goal.invariant-loop-col
invariant-loop-col l = (l.col ≤ 9) × Partly l.masks (9 * l.row + l.col) l.lanes
