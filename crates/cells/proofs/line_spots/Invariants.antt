-- `cells::line_spots` meets its contract. The invariant: the lines that are left still make the nine masks. Assumes nothing.
use mathlib.Core.Path.{◌≡◌}
use Prim.Native.Nat.{◌+◌}
use Rattle.grid.proofs.Fills.{filled}
use Rattle.cells.specs.code.Places.{unit_masks, spots_in, line_spots}
use Rattle.cells.proofs.line_spots.Given as goal

abbrev pub invariant-loop-line : goal.invariant-loop-line
invariant-loop-line l = filled (λ i. spots_in (unit_masks l.givens l.masks (l.first + i)) l.digit) 9 l.line l.list ≡ line_spots l.givens l.masks l.first l.digit
