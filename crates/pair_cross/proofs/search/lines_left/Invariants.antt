-- `pair_cross::search::lines_left` meets its contract. The invariant: the lines that are left still make the whole. Assumes nothing.
use mathlib.Core.Path.{◌≡◌}
use lib.Bits.{bit_and}
use Rattle.candidates.specs.Masks.{minus}
use Rattle.grid.proofs.Fills.{filled}
use Rattle.steps.specs.Boards.{at}
use Rattle.pair_cross.specs.code.Search.{lines_left}
use Rattle.pair_cross.proofs.search.lines_left.Given as goal

abbrev pub invariant-loop-line : goal.invariant-loop-line
invariant-loop-line l = filled (λ k. minus (at l.held k) (bit_and (at l.doors k) l.lost)) 9 l.line l.places-items ≡ lines_left l.held l.doors l.lost
