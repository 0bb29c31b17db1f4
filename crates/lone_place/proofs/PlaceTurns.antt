-- Place: an instance by the places that hold its digit, which none of the unit's instances of that digit change. Assumes nothing.
use mathlib.Core.Path.{◌≡◌, refl, sym, ap, ◌∙◌}
use mathlib.Core.Bool.{Bool, false, cond, not, true≢false}
use mathlib.Core.List.{List, [], ◌∷◌}
use Prim.Native.Nat.{ℕ, ◌<◌}
use borrow.Author.Tests.{eq-eqb}
use lib.Dec.{eqb}
use Rattle.candidates.specs.Masks.{has, minus, single}
use Rattle.candidates.proofs.Held.{has-power}
use Rattle.candidates.proofs.Tests.{by-test, bool_iff}
use Rattle.grid.specs.Units.{unit_cell}
use Rattle.steps.specs.Boards.{at, is_open}
use Rattle.steps.specs.Instances.{place, step_of, places}
use Rattle.steps.specs.Loops.{each, for, up_to}
use Rattle.steps.specs.Passes.{Place, instances, instance_taken, pass}
use Rattle.steps.specs.Steps.{lose_at, lose_all, step_taken}
use Rattle.steps.proofs.Loops.{in-up_to}
use Rattle.steps.proofs.Losses.{lost-digits}
use Rattle.steps.proofs.Turns.{each-alike, each-one, each_in}
use Rattle.cells.specs.code.Places.{held_places}
use Rattle.cells.proofs.NineBits.{has-except}
use Rattle.cells.proofs.UnitPlaces.{has-place}
use Rattle.cells.proofs.HeldPlaces.{held_same, confined}
use Rattle.lone_place.specs.code.Turns.{place_turn, place_digit, place_unit}

-- a digit that the cell does not lose
kept-digit : (free : ℕ → Bool) (cs : List ℕ) (k : ℕ → ℕ) (m : List ℕ) (e d : ℕ) → has (k e) d ≡ false → has (at (lose_all free cs k m) e) d ≡ has (at m e) d
kept-digit free cs k m e d h =
    bool_iff (has (at (lose_all free cs k m) e) d) (has (at m e) d) (λ t. ((lost-digits free k cs m e d).0 t).0)
    (λ t. (lost-digits free k cs m e d).1 (t, λ l. true≢false (sym l.digit ∙ h)))

-- all but d leaves d
spares-digit : (d : ℕ) → d < 9 → has (minus 511 (single d)) d ≡ false
spares-digit d h = has-except (single d) d h ∙ ap not (has-power d d ∙ eq-eqb d d refl)

module _ (g : List ℕ) (u d : ℕ) (h : u < 27) (l : d < 9) where
  pub taken : (m : List ℕ) (i : ℕ) → i < 9 → instance_taken g (place u d i) m ≡ place_turn g u d (held_places m u d) i m
  unfolding step_of step_taken place_turn each
  taken m i n =
      ap (λ (t : Bool). cond t (lose_at (is_open g) (unit_cell u i) (minus 511 (single d)) m) m)
      (confined m u d (λ e. eqb e (unit_cell u i)) (single i) h (λ j k. has-place u h i j n k))

  pub keeps : (held i : ℕ) (m : List ℕ) → held_places (place_turn g u d held i m) u d ≡ held_places m u d
  unfolding place_turn each
  keeps held i m =
      by-test (λ (n : List ℕ). held_places n u d ≡ held_places m u d) (eqb (minus held (single i)) 0) (lose_at (is_open g) (unit_cell u i) (minus 511 (single d)) m) m
      (λ t. held_same (lose_at (is_open g) (unit_cell u i) (minus 511 (single d)) m) m u d h
      (λ j k. kept-digit (is_open g) (unit_cell u i ∷ []) (λ _. minus 511 (single d)) m (unit_cell u j) d (spares-digit d l)))
      (λ t. refl)

  pub place-digit : (m : List ℕ) → place_digit g u d m ≡ each (place_turn g u d (held_places m u d)) (up_to 9) m
  unfolding place_digit
  place-digit m =
      (each-alike (λ i. instance_taken g (place u d i)) (place_turn g u d (held_places m u d)) (λ (n : List ℕ). held_places n u d ≡ held_places m u d) (up_to 9)
      (λ i k n e. (taken n i (in-up_to 9 i k) ∙ ap (λ (x : ℕ). place_turn g u d x i n) e, keeps (held_places m u d) i n ∙ e)) m refl).0

pub place-pass : (g m : List ℕ) → pass g Place m ≡ each (place_unit g) (up_to 27) m
unfolding pass instances places place_unit place_digit
place-pass g m =
    each_in (instance_taken g) (up_to 27) (λ u. for (up_to 9) λ d. for (up_to 9) λ i. place u d i ∷ []) (place_unit g)
    (λ u. each_in (instance_taken g) (up_to 9) (λ d. for (up_to 9) λ i. place u d i ∷ []) (place_digit g u) (λ d. each-one (instance_taken g) (up_to 9) (place u d))) m
