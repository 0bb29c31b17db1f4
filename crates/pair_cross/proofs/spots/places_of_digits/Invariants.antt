-- `pair_cross::spots::places_of_digits` meets its contract. The invariant: the digits that are left still make the whole. Assumes nothing.
use mathlib.Core.Path.{◌≡◌}
use mathlib.Core.Bool.{cond}
use lib.Bits.{bit_and}
use lib.Dec.{eqb}
use Rattle.grid.proofs.Fills.{filled}
use Rattle.candidates.specs.Masks.{place_mask}
use Rattle.pair_cross.specs.code.Spots.{places_if}
use Rattle.pair_cross.proofs.spots.places_of_digits.Given as goal

abbrev pub invariant-loop-digit : goal.invariant-loop-digit
invariant-loop-digit l = filled (λ d. cond (eqb (bit_and l.held (place_mask d)) 0) 0 511) 16 l.digit l.set-items ≡ places_if l.held
