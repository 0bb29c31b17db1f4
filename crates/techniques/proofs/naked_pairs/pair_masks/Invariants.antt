-- `techniques::naked_pairs::pair_masks` meets its contract. The invariant: the cells that are left still make the masks. Assumes nothing.
use mathlib.Core.Path.{◌≡◌}
use mathlib.Core.Bool.{cond}
use Rattle.grid.proofs.Fills.{filled}
use Rattle.steps.specs.Boards.{at, is_open}
use Rattle.techniques.specs.code.NakedPairs.{two_of, pair_masks}
use Rattle.techniques.proofs.naked_pairs.pair_masks.Given as goal

abbrev pub invariant-loop-cell : goal.invariant-loop-cell
invariant-loop-cell l = filled (λ c. cond (is_open l.givens c) (two_of (at l.masks c)) 0) 81 l.cell l.pairs ≡ pair_masks l.givens l.masks
