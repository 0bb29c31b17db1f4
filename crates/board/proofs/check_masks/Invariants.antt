-- `board::check_masks` meets its contract. Assumes nothing.
use mathlib.Core.Path.{◌≡◌}
use Prim.Native.Nat.{◌-◌}
use Rattle.grid.specs.Lists.{range}
use Rattle.steps.specs.Boards.{at, given}
use Rattle.steps.specs.Loops.{first}
use Rattle.board.specs.code.Checks.{misfit_of, first_misfit}
use Rattle.board.proofs.check_masks.Given as goal

abbrev pub invariant-loop-cell : goal.invariant-loop-cell
invariant-loop-cell l = first (λ c. misfit_of (at l.masks c) (at l.fresh c) (given l.givens c)) (range (81 - l.cell) l.cell) ≡ first_misfit l.givens l.fresh l.masks
