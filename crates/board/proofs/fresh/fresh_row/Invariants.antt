-- `board::fresh::fresh_row` meets its contract. The invariant: the cells that are left still make the whole row. Assumes nothing.
use mathlib.Core.Path.{◌≡◌}
use mathlib.Core.List.{List}
use Prim.Native.Nat.{ℕ, ◌-◌, ◌≤◌}
use lib.ListN.{set}
use Rattle.grid.specs.Cells.{cell}
use Rattle.grid.specs.Lists.{each, range}
use Rattle.steps.specs.Boards.{given}
use Rattle.grid.specs.Marks.{seen}
use Rattle.board.specs.code.Fresh.{fresh_mask, fresh_row}
use Rattle.board.proofs.fresh.fresh_row.Given as goal

-- one turn of the loop
abbrev pub turn : List ℕ → List ℕ → ℕ → ℕ → List ℕ → List ℕ
turn g sets r k m = set m (cell r k) (fresh_mask (given g (cell r k)) (seen sets (cell r k)))

abbrev pub invariant-loop-col : goal.invariant-loop-col
invariant-loop-col l = (l.col ≤ 9) × (each (turn l.givens l.sets l.row) (range (9 - l.col) l.col) l.masks ≡ fresh_row l.givens l.sets l.row l.initial.masks)
