-- The lane of a unit: the nine digits of its masks, and the places that hold a digit. Assumes nothing.
use mathlib.Core.Path.{◌≡◌, ap, ◌∙◌}
use mathlib.Core.List.{List}
use Prim.Native.Nat.{ℕ, ◌<◌}
use lib.Bits.{bit_and}
use Rattle.candidates.specs.Masks.{has}
use Rattle.candidates.proofs.Held.{held_all}
use Rattle.candidates.proofs.Tests.{bool_iff}
use Rattle.grid.proofs.Lists.{at-up_to}
use Rattle.steps.specs.Boards.{at}
use Rattle.cells.specs.code.Places.{all_masks, spots_in, held_places}
use Rattle.cells.proofs.NineBits.{held-meet}
use Rattle.cells.proofs.Places.{gather-same}
use Rattle.lanes.specs.code.Lanes.{laid, lane_masks, nines, lane_of}
use Rattle.lanes.proofs.LaneUnits.{unit_lane}

pub nines-at : (masks : List ℕ) (l : ℕ) → l < 9 → at (nines masks) l ≡ bit_and (at masks l) 511
unfolding nines
nines-at masks l h = at-up_to (λ i. bit_and (at masks i) 511) 0 9 l h

module _ (m : List ℕ) (u : ℕ) (h : u < 27) where
  pub lane-spots : (d : ℕ) → d < 9 → spots_in (lane_masks (laid m) (lane_of u)) d ≡ held_places m u d
  unfolding held_places spots_in
  lane-spots d l =
      ap (λ (nine : List ℕ). spots_in nine d) (unit_lane m u h)
      ∙ gather-same (λ i. has (at (nines (all_masks m u)) i) d) (λ i. has (at (all_masks m u) i) d) 9
      (λ i k. ap (λ (x : ℕ). has x d) (nines-at (all_masks m u) i k) ∙ digit (at (all_masks m u) i))
    where
      digit : (x : ℕ) → has (bit_and x 511) d ≡ has x d
      digit x = bool_iff (has (bit_and x 511) d) (has x d) (λ t. ((held-meet x 511 d).0 t).0) (λ t. (held-meet x 511 d).1 (t, held_all d l))
