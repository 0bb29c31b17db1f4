-- `board::fresh::fresh_masks` meets its contract. Assumes nothing.
use mathlib.Core.Path.{◌≡◌}
use Prim.Native.Nat.{◌-◌, ◌≤◌}
use Rattle.grid.specs.Lists.{each, range}
use Rattle.steps.specs.Boards.{fresh}
use Rattle.board.specs.code.Fresh.{fresh_row}
use Rattle.board.proofs.fresh.fresh_masks.Given as goal

abbrev pub invariant-loop-row : goal.invariant-loop-row
invariant-loop-row l = (l.row ≤ 9) × (each (fresh_row l.givens l.sets) (range (9 - l.row) l.row) l.masks ≡ fresh l.givens)
