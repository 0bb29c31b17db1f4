-- The places that a mask holds, the lowest one first. Assumes nothing.
use mathlib.Core.Path.{◌≡◌, ap}
use mathlib.Core.Bool.{not}
use mathlib.Core.List.{◌∷◌}
use Prim.Native.Nat.{ℕ, ◌<◌}
use native.Mathlib.Omega.{arith}
use borrow.Author.Tests.{ne_eqb}
use lib.Dec.{eqb}
use Rattle.candidates.specs.Masks.{lowest, tail, first_place}
use Rattle.candidates.proofs.FewDigits.{lowest-in}
use Rattle.candidates.proofs.Held.{held_below}
use Rattle.candidates.proofs.Tests.{below, implies, implied, T_true}
use Rattle.steps.specs.Boards.{same_masks}
use Rattle.steps.proofs.Masks.{same-eq}
use Rattle.cells.specs.code.Places.{places_in}

-- the lowest place first, for every set of digits
pub places-on : (x : ℕ) → 0 < x → x < 512 → places_in x ≡ lowest x ∷ places_in (tail x)
unfolding first_place
places-on x p h =
    same-eq (places_in x) (lowest x ∷ places_in (tail x))
    (T_true (same_masks (places_in x) (lowest x ∷ places_in (tail x)))
    (implied (not (eqb x 0)) (same_masks (places_in x) (lowest x ∷ places_in (tail x)))
    (below 512 (λ x. implies (not (eqb x 0)) (same_masks (places_in x) (lowest x ∷ places_in (tail x)))) tt x h) (ap not (ne_eqb x 0 (λ e. absurd (omega arith))))))

pub lowest-place : (x : ℕ) → 0 < x → x < 512 → lowest x < 9
lowest-place x p h = held_below x 9 (lowest x) h (lowest-in x p (omega arith))
