-- `pair_cross::spots::spot_sets` meets its contract. The invariant: the digits that are left still make the whole. Assumes nothing.
use mathlib.Core.Path.{◌≡◌}
use Rattle.grid.proofs.Fills.{filled}
use Rattle.candidates.specs.Masks.{place_mask}
use Rattle.pair_cross.specs.code.Spots.{spots_of, spot_sets}
use Rattle.pair_cross.proofs.spots.spot_sets.Given as goal

abbrev pub invariant-loop-digit : goal.invariant-loop-digit
invariant-loop-digit l = filled (λ d. spots_of l.lanes l.lane (place_mask d)) 16 l.digit l.set-items ≡ spot_sets l.lanes l.lane
