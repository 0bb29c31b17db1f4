-- `board::count_clues` meets its contract. Assumes nothing.
use mathlib.Core.Path.{◌≡◌}
use Prim.Native.Nat.{◌+◌, ◌-◌, ◌≤◌}
use Rattle.grid.specs.Cells.{cells}
use Rattle.grid.specs.Lists.{range}
use Rattle.steps.specs.Boards.{givens_of}
use Rattle.board.specs.Boards.{clue_count}
use Rattle.board.proofs.count_clues.Given as goal

abbrev pub invariant-loop-cell : goal.invariant-loop-cell
invariant-loop-cell l = (l.cell ≤ 81) × (l.count ≤ l.cell) × (l.count + clue_count (givens_of l.clues) (range (81 - l.cell) l.cell) ≡ clue_count (givens_of l.clues) cells)
