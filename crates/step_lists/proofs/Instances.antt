-- One instance of each kind as code takes it: its test is its condition, and what is lost then is its loss. Assumes nothing.
use mathlib.Core.Path.{◌≡◌, sym, ap, ◌∙◌, subst}
use mathlib.Core.Logic.{⊎_elim}
use mathlib.Core.Bool.{Bool, true, false, cond, ◌&&◌, ◌||◌, and-true}
use mathlib.Core.List.{List}
use Prim.Native.Nat.{ℕ, ◌+◌, ◌≤◌, ◌<◌}
use native.Mathlib.Omega.{arith}
use lib.Dec.{eqb}
use Rattle.candidates.specs.Masks.{minus, single, place_mask}
use Rattle.grid.specs.Units.{unit, unit_cell, in_unit}
use Rattle.grid.proofs.Units.{cell_below}
use Rattle.steps.specs.Boards.{at, is_open}
use Rattle.steps.specs.Instances as instances
use Rattle.steps.specs.Instances.{lone, place, pair, lone_step, place_step, pair_step, locked_step, cross_step, step_of}
use Rattle.steps.specs.Loops.{each, all}
use Rattle.steps.specs.Passes.{instance_taken}
use Rattle.steps.specs.Steps.{Step, lacks, applies, lose_all, step_taken}
use Rattle.steps.proofs.Loops.{all_both}
use Rattle.steps.proofs.Taking.{taken, left_alone}
use Rattle.cells.specs.code.Places.{mask_at, lose_in, lose_places, held_places, all_but}
use Rattle.cells.specs.code.Meets.{meetings, met_places, met_unit, meet_turn}
use Rattle.cells.proofs.Crossings.{Crossing, rows, columns, two-across}
use Rattle.cells.proofs.HeldPlaces.{confined}
use Rattle.cells.proofs.Meetings.{on-met, met-lose}
use Rattle.cells.proofs.NineBits.{has_both}
use Rattle.cells.proofs.Places.{lose-cell, mask_at_lem}
use Rattle.cells.proofs.UnitPlaces.{has-place, two-spared}
use Rattle.lone_place.specs.code.Turns.{peers_lose}
use Rattle.step_lists.specs.code.Taking.{Across, within_digits, confined_to}

-- ---- Lone

module _ (g m : List ℕ) (c d : ℕ) (h : c < 81) where
  lone-applies : within_digits (mask_at m c) (single d) ≡ applies (lone_step c d) m
  lone-applies = ap (λ (x : ℕ). within_digits x (single d)) (mask_at_lem m c h) ∙ sym (and-true (lacks m c (minus 511 (single d))))

  pub lone-taken : within_digits (mask_at m c) (single d) ≡ true → peers_lose g c (single d) m ≡ instance_taken g (lone c d) m
  unfolding step_of peers_lose
  lone-taken t = taken (is_open g) (lone_step c d) m (sym lone-applies ∙ t)

  pub lone-left : within_digits (mask_at m c) (single d) ≡ false → m ≡ instance_taken g (lone c d) m
  unfolding step_of
  lone-left t = left_alone (is_open g) (lone_step c d) m (sym lone-applies ∙ t)

-- ---- Place

module _ (g m : List ℕ) (u d i : ℕ) (h : u < 27) (n : i < 9) where
  place-applies : confined_to m u d (single i) ≡ applies (place_step u d (unit_cell u i)) m
  place-applies = sym (confined m u d (λ e. eqb e (unit_cell u i)) (single i) h (λ j k. has-place u h i j n k))

  pub place-taken : confined_to m u d (single i) ≡ true → lose_in (is_open g) (unit_cell u i) (minus 511 (single d)) m ≡ instance_taken g (place u d i) m
  unfolding step_of each
  place-taken t = lose-cell (is_open g) (unit_cell u i) (minus 511 (single d)) m (cell_below u i h n) ∙ taken (is_open g) (place_step u d (unit_cell u i)) m (sym place-applies ∙ t)

  pub place-left : confined_to m u d (single i) ≡ false → m ≡ instance_taken g (place u d i) m
  unfolding step_of
  place-left t = left_alone (is_open g) (place_step u d (unit_cell u i)) m (sym place-applies ∙ t)

-- ---- Pair

module _ (g m : List ℕ) (u i j a b : ℕ) (h : u < 27) (hi : i < 9) (hj : j < 9) where
  abbrev digits : ℕ
  digits = instances.both a b

  -- the test of both its cells
  abbrev pub within : Bool
  within = within_digits (mask_at m (unit_cell u i)) digits && within_digits (mask_at m (unit_cell u j)) digits

  pair-applies : within ≡ applies (pair_step u (unit_cell u i) (unit_cell u j) a b) m
  pair-applies =
      (λ t. within_digits (mask_at_lem m (unit_cell u i) (cell_below u i h hi) t) digits && within_digits (mask_at_lem m (unit_cell u j) (cell_below u j h hj) t) digits)
      ∙ ap (λ (t : Bool). within_digits (at m (unit_cell u i)) digits && t) (sym (and-true (within_digits (at m (unit_cell u j)) digits)))

  pub pair-taken : within ≡ true → lose_places (is_open g) u (all_but i j) digits m ≡ instance_taken g (pair u i j a b) m
  unfolding step_of
  pair-taken t = two-spared u h (is_open g) i j digits hi hj m ∙ taken (is_open g) (pair_step u (unit_cell u i) (unit_cell u j) a b) m (sym pair-applies ∙ t)

  pub pair-left : within ≡ false → m ≡ instance_taken g (pair u i j a b) m
  unfolding step_of
  pair-left t = left_alone (is_open g) (pair_step u (unit_cell u i) (unit_cell u j) a b) m (sym pair-applies ∙ t)

-- ---- Pointing and Claiming

pub locked-taken : (g m : List ℕ) (u d k : ℕ) → u < 27 → d < 9 → k < meetings u → meet_turn g u d (held_places m u d) k m ≡ step_taken (is_open g) (locked_step u (met_unit u k) d) m
unfolding step_taken meet_turn
locked-taken g m u d k h l n =
    ap (λ (x : List ℕ). cond (eqb (minus (held_places m u d) (met_places k)) 0) x m) (met-lose u k h n g d l m)
    ∙ sym (ap (λ (t : Bool). cond t (lose_all (is_open g) (unit (met_unit u k)) (λ e. cond (in_unit u e) 0 (single d)) m) m) (confined m u d (in_unit (met_unit u k)) (met_places k) h (on-met u k h n)))

-- ---- Cross

by_lines : (P : ℕ → ℕ → Type 0) (f h : ℕ) → Across f h → P 0 9 → P 9 0 → P f h
by_lines P f h w p q =
    ⊎_elim (λ e. subst (λ (x : ℕ). P x h) (sym e.0) (subst (P 0) (sym e.1) p)) (λ e. subst (λ (x : ℕ). P x h) (sym e.0) (subst (P 9) (sym e.1) q)) w

pub first-most : (f h : ℕ) → Across f h → (f ≤ 9) × (h ≤ 9)
first-most f h w = by_lines (λ x y. (x ≤ 9) × (y ≤ 9)) f h w (omega arith) (omega arith)

module _ (g m : List ℕ) (f h d i j a b : ℕ) (w : Across f h) (hd : d < 9) (hi : i < 9) (hj : j < 9) (ha : a < 9) (hb : b < 9) where
  over : Crossing f h
  over = by_lines Crossing f h w rows columns

  back : Crossing h f
  back = by_lines (λ x y. Crossing y x) f h w columns rows

  abbrev lines : ℕ
  lines = instances.both a b

  abbrev test : ℕ → Bool
  test e = lacks m e (cond (in_unit (h + a) e || in_unit (h + b) e) 0 (single d))

  -- one of the lines
  line-test : (r : ℕ) → r < 9 → confined_to m (f + r) d lines ≡ all test (unit (f + r))
  line-test r n =
      sym (confined m (f + r) d (λ e. in_unit (h + a) e || in_unit (h + b) e) lines (over.below r n)
      (λ l o. has_both a b l ∙ sym (ap (λ (t : Bool). t || in_unit (h + b) (unit_cell (f + r) l)) (over.inside r a l n ha o) ∙ ap (λ (t : Bool). eqb l a || t) (over.inside r b l n hb o))))

  abbrev step : Step
  step = cross_step d (f + i) (f + j) (h + a) (h + b)

  cross-applies : applies step m ≡ (confined_to m (f + i) d lines && confined_to m (f + j) d lines)
  cross-applies =
      all_both test (unit (f + i)) (unit (f + j)) ∙ ap (λ (t : Bool). t && all test (unit (f + j))) (sym (line-test i hi))
      ∙ ap (λ (t : Bool). confined_to m (f + i) d lines && t) (sym (line-test j hj))

  -- both lines
  abbrev pub confined-both : Bool
  confined-both = confined_to m (f + i) d lines && confined_to m (f + j) d lines

  pub cross-taken : confined-both ≡ true
      → lose_places (is_open g) (h + b) (all_but i j) (place_mask d) (lose_places (is_open g) (h + a) (all_but i j) (place_mask d) m) ≡ step_taken (is_open g) step m
  cross-taken t = two-across g f h d i j back hd hi hj a b ha hb m ∙ taken (is_open g) step m (cross-applies ∙ t)

  pub cross-left : confined-both ≡ false → m ≡ step_taken (is_open g) step m
  cross-left t = left_alone (is_open g) step m (cross-applies ∙ t)
