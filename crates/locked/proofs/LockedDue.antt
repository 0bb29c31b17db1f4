-- Pointing and Claiming by the digits of a unit: the instances of a digit change no other, and places whose open cells lack the digit lose nothing. Assumes nothing.
use mathlib.Core.Path.{◌≡◌, refl, sym, ap, ◌∙◌}
use mathlib.Core.Logic.{◌≢◌}
use mathlib.Core.Bool.{true, cond}
use mathlib.Core.List.{List}
use Prim.Native.Nat.{ℕ, ◌<◌}
use lib.Bits.{bit_and}
use Rattle.candidates.specs.Masks.{has, single}
use Rattle.candidates.proofs.Held.{Held, has-none, held-power}
use Rattle.candidates.proofs.Tests.{by-test}
use Rattle.grid.specs.Units.{unit_cell, in_unit}
use Rattle.grid.proofs.Units.{cell_below}
use Rattle.steps.specs.Boards.{at, is_open, Under}
use Rattle.steps.specs.Instances.{locked_step}
use Rattle.steps.specs.Loops.{up_to}
use Rattle.steps.specs.Steps.{step_taken}
use Rattle.steps.proofs.Loops.{in-up_to, each-idle, each_keeps}
use Rattle.steps.proofs.Losses.{held-unless}
use Rattle.steps.proofs.Masks.{under-refl, under-trans}
use Rattle.steps.proofs.Steps.{lose-none, take-under}
use Rattle.cells.specs.code.Places.{lose_in, lose_places, all_masks, spots_in, held_places}
use Rattle.cells.specs.code.Meets.{meetings, met_unit}
use Rattle.cells.proofs.Places.{lose-cell}
use Rattle.cells.proofs.HeldPlaces.{held_same}
use Rattle.lanes.specs.code.Lanes.{Alike}
use Rattle.lanes.proofs.Families.{take-alike, digit-parted}
use Rattle.lanes.proofs.Turns.{Parted}
use Rattle.locked.specs.code.Locked.{locked_digit, locked_unit, DigitSkips}

-- places whose open cells hold none of the digits lose nothing
pub places-idle : (g : List ℕ) (u ps k : ℕ) (m : List ℕ) → u < 27 → ((i : ℕ) → i < 9 → Held ps i → is_open g (unit_cell u i) ≡ true → bit_and (at m (unit_cell u i)) k ≡ 0) → lose_places (is_open g) u ps k m ≡ m
unfolding lose_places
places-idle g u ps k m h none =
    each-idle (λ i n. cond (has ps i) (lose_in (is_open g) (unit_cell u i) k n) n) (up_to 9) m
    (λ i o. let l = in-up_to 9 i o in
    by-test (λ (n : List ℕ). n ≡ m) (has ps i) (lose_in (is_open g) (unit_cell u i) k m) m
    (λ t. lose-cell (is_open g) (unit_cell u i) k m (cell_below u i h l) ∙ lose-none (is_open g) (unit_cell u i) k m (none i l t)) (λ t. refl))

-- the places of a unit that hold a digit, as found in its masks before: nothing has changed of that digit
pub held-still : (u d : ℕ) → u < 27 → {m n nine : List ℕ} {held : ℕ} → held ≡ spots_in nine d → nine ≡ all_masks m u → Alike d n m → held ≡ held_places n u d
unfolding held_places
held-still u d h {m} {n} found is same = found ∙ ap (λ (x : List ℕ). spots_in x d) is ∙ sym (held_same n m u d h (λ i l. same.at (unit_cell u i)))

-- the instances of digit i leave digit j
module _ (g : List ℕ) (u : ℕ) where
  digit-kept : (i j : ℕ) → j ≢ i → (m : List ℕ) (c : ℕ) → has (at (locked_digit g u i m) c) j ≡ has (at m c) j
  unfolding locked_digit
  digit-kept i j other m c =
      each_keeps (λ k. step_taken (is_open g) (locked_step u (met_unit u k) i)) (λ (n : List ℕ). has (at n c) j ≡ has (at m c) j) (up_to (meetings u))
      (λ k o n p. take-alike (is_open g) (locked_step u (met_unit u k) i) i j other (λ e v t. (held-power i v).0 ((held-unless (in_unit u e) (single i) v).0 t).1) n c ∙ p) m refl

  pub digits-parted : Parted Alike (locked_digit g u)
  digits-parted = digit-parted (locked_digit g u) digit-kept

-- nothing comes back
pub unit-under : (g : List ℕ) (u : ℕ) (m : List ℕ) → Under (locked_unit g u m) m
unfolding locked_unit locked_digit
unit-under g u m =
    each_keeps (locked_digit g u) (λ (n : List ℕ). Under n m) (up_to 9)
    (λ d o. each_keeps (λ k. step_taken (is_open g) (locked_step u (met_unit u k) d)) (λ (n : List ℕ). Under n m) (up_to (meetings u)) (λ k i n. under-trans (take-under (is_open g) (locked_step u (met_unit u k) d) n))) m (under-refl m)

-- a unit of which nothing is due
pub none-due : (g m : List ℕ) (u : ℕ) {due : ℕ} → DigitSkips g m u due → due ≡ 0 → locked_unit g u m ≡ m
unfolding locked_unit
none-due g m u w e = each-idle (locked_digit g u) (up_to 9) m (λ d o. w.idle d (in-up_to 9 d o) (ap (λ (x : ℕ). has x d) e ∙ has-none d) m (record { at = λ c. refl }))
