-- `lanes::doors` meets its contract. The invariant: the cells that are left still make the whole. Assumes nothing.
use mathlib.Core.Path.{◌≡◌}
use mathlib.Core.Bool.{cond}
use Rattle.grid.proofs.Fills.{filled}
use Rattle.steps.specs.Boards.{is_open}
use Rattle.lanes.specs.code.Lanes.{doors_of}
use Rattle.lanes.proofs.doors.Given as goal

abbrev pub invariant-loop-cell : goal.invariant-loop-cell
invariant-loop-cell l = filled (λ c. cond (is_open l.givens c) 511 0) 81 l.cell l.all ≡ doors_of l.givens
