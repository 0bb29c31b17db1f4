-- `cells::unit_masks` meets its contract. The invariant: the places that are left still make the nine masks. Assumes nothing.
use mathlib.Core.Path.{◌≡◌}
use Rattle.grid.specs.Units.{unit_cell}
use Rattle.grid.proofs.Fills.{filled}
use Rattle.cells.specs.code.Places.{open_mask, unit_masks}
use Rattle.cells.proofs.unit_masks.Given as goal

abbrev pub invariant-loop-place : goal.invariant-loop-place
invariant-loop-place l = filled (λ i. open_mask l.givens l.masks (unit_cell l.unit i)) 9 l.place l.nine ≡ unit_masks l.givens l.masks l.unit
