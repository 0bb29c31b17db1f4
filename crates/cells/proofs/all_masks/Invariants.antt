-- `cells::all_masks` meets its contract. The invariant: the places that are left still make the nine masks. Assumes nothing.
use mathlib.Core.Path.{◌≡◌}
use Rattle.grid.specs.Units.{unit_cell}
use Rattle.grid.proofs.Fills.{filled}
use Rattle.cells.specs.code.Places.{mask_at, all_masks}
use Rattle.cells.proofs.all_masks.Given as goal

abbrev pub invariant-loop-place : goal.invariant-loop-place
invariant-loop-place l = filled (λ i. mask_at l.masks (unit_cell l.unit i)) 9 l.place l.nine ≡ all_masks l.masks l.unit
