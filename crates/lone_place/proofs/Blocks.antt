-- Each turn of Lone and Place takes a block of instances, and the blocks make up the pass. Assumes nothing.
use mathlib.Core.Path.{◌≡◌, refl, sym}
use mathlib.Core.List.{List, [], ◌∷◌}
use Prim.Native.Nat.{ℕ, ◌+◌, ◌*◌}
use Rattle.steps.specs.Instances.{Instance, lone, place, lones, places}
use Rattle.steps.specs.Loops.{each, for, up_to}
use Rattle.steps.specs.Passes.{Lone, Place, instances, instance_taken}
use Rattle.steps.proofs.Loops.{nines}
use Rattle.steps.proofs.Turns.{each-one, each_in}
use Rattle.lone_place.specs.code.Turns.{lone_cell, lone_row, cell_lones, row_lones, place_digit, place_unit, digit_places, unit_places, family_places}
use Rattle.lone_place.specs.code.Due.{place_turn_of, place_family}

module _ (g : List ℕ) where
  pub one-taken : (x : Instance) (m : List ℕ) → instance_taken g x m ≡ each (instance_taken g) (x ∷ []) m
  unfolding each
  one-taken x m = refl

  -- ---- Lone

  pub lone-cell : (c : ℕ) (m : List ℕ) → lone_cell g c m ≡ each (instance_taken g) (cell_lones c) m
  unfolding lone_cell cell_lones
  lone-cell c m = sym (each-one (instance_taken g) (up_to 9) (lone c) m)

  pub lone_row_lem : (r : ℕ) (m : List ℕ) → lone_row g r m ≡ each (instance_taken g) (row_lones r) m
  unfolding lone_row row_lones
  lone_row_lem r m = sym (each_in (instance_taken g) (up_to 9) (λ k. cell_lones (9 * r + k)) (λ k. lone_cell g (9 * r + k)) (λ k n. sym (lone-cell (9 * r + k) n)) m)

  -- ---- Place

  pub place-digit : (u d : ℕ) (m : List ℕ) → place_digit g u d m ≡ each (instance_taken g) (digit_places u d) m
  unfolding place_digit digit_places
  place-digit u d m = sym (each-one (instance_taken g) (up_to 9) (place u d) m)

  pub place-unit : (u : ℕ) (m : List ℕ) → place_unit g u m ≡ each (instance_taken g) (unit_places u) m
  unfolding place_unit unit_places
  place-unit u m = sym (each_in (instance_taken g) (up_to 9) (digit_places u) (place_digit g u) (λ d n. sym (place-digit u d n)) m)

  pub place-family : (f : ℕ) (m : List ℕ) → place_family g f m ≡ each (instance_taken g) (family_places f) m
  unfolding place_family family_places
  place-family f m = sym (each_in (instance_taken g) (up_to 9) (λ k. unit_places (9 * f + k)) (place_turn_of g f) (λ k n. sym (place-unit (9 * f + k) n)) m)

-- ---- the passes

pub lones-by-rows : instances Lone ≡ for (up_to 9) row_lones
unfolding instances lones row_lones cell_lones
lones-by-rows = nines (λ c. for (up_to 9) λ d. lone c d ∷ []) 9 (unfold for in refl)

pub places-by-families : instances Place ≡ for (up_to 3) family_places
unfolding instances places family_places unit_places digit_places
places-by-families = nines (λ u. for (up_to 9) λ d. for (up_to 9) λ i. place u d i ∷ []) 3 (unfold for in refl)
