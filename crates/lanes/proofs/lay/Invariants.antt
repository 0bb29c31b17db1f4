-- `lanes::lay` meets its contract. The invariant: the rows before this one are laid out. Assumes nothing.
use Prim.Native.Nat.{◌*◌, ◌≤◌}
use Rattle.lanes.specs.code.Lanes.{Partly}
use Rattle.lanes.proofs.lay.Given as goal

abbrev pub invariant-loop-row : goal.invariant-loop-row
invariant-loop-row l = (l.row ≤ 9) × Partly l.masks (9 * l.row) l.lanes
