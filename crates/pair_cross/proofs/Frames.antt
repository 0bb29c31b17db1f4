-- The steps of Pair and Cross by what two lines of a frame hold: when they apply, what they spare and what they lose. Assumes nothing.
use mathlib.Core.Path.{◌≡◌, refl, sym, ap, ◌∙◌, subst}
use mathlib.Core.Logic.{◌⊎◌, inl, inr, ⊎_elim}
use mathlib.Core.Bool.{Bool, true, false, cond, ◌&&◌, ◌||◌, and-true}
use mathlib.Core.List.{List, [], ◌∷◌, ◌++◌}
use Prim.Native.Nat.{ℕ, ◌+◌, ◌-◌, ◌≤◌, ◌<◌}
use native.Mathlib.Omega.{arith}
use borrow.Author.Tests.{eq-eqb}
use lib.Bits.{bit_and}
use lib.Dec.{eqb}
use Rattle.candidates.specs.Masks.{has, minus, union, single}
use Rattle.candidates.proofs.Tests.{by-test}
use Rattle.grid.specs.Units.{unit, unit_cell, in_unit}
use Rattle.grid.proofs.Units.{cell_in}
use Rattle.steps.specs.Boards.{at, is_open}
use Rattle.steps.specs.Instances.{both, pair_step, cross_step}
use Rattle.steps.specs.Loops.{all, up_to}
use Rattle.steps.specs.Steps.{lacks, applies, step_taken}
use Rattle.steps.proofs.Loops.{in-up_to}
use Rattle.steps.proofs.Turns.{each-alike}
use Rattle.cells.specs.code.Places.{lose_places, held_places, all_but}
use Rattle.cells.proofs.Places.{all-kept}
use Rattle.cells.proofs.HeldPlaces.{held_small, held_same, confined}
use Rattle.cells.proofs.NineBits.{has_both, nine-small, outside-test, outside-both}
use Rattle.cells.proofs.UnitPlaces.{two-spared}
use Rattle.cells.proofs.Crossings.{Crossing, rows, columns}
use Rattle.pair_cross.specs.code.Twos.{first_of, second_of, FirstLine, Framed, frame_step, line_held, two_held, two_lose, two_turn, lines_turned, lines_taken}
use Rattle.pair_cross.specs.declared.twos.Frame.{Frame}
use Rattle.pair_cross.specs.declared.twos.Frame.TheVariants.{Unit, Lines}
use Rattle.pair_cross.proofs.TwoNumbers.{first_below, second_below}

-- ---- rows and columns cross

by_first : (P : ℕ → ℕ → Type 0) (f : ℕ) → FirstLine f → P 0 9 → P 9 0 → P f (9 - f)
by_first P f w p q = ⊎_elim (λ e. subst (λ (x : ℕ). P x (9 - x)) (sym e) p) (λ e. subst (λ (x : ℕ). P x (9 - x)) (sym e) q) w

pub first-le : (f : ℕ) → FirstLine f → f ≤ 9
first-le f w = ⊎_elim (λ e. omega arith) (λ e. omega arith) w

pub crossing : (f : ℕ) → FirstLine f → Crossing f (9 - f)
crossing f w = by_first (λ x y. Crossing x y) f w rows columns

pub crossed : (f : ℕ) → FirstLine f → Crossing (9 - f) f
crossed f w = by_first (λ x y. Crossing y x) f w columns rows

-- ---- two lines

all_append : (t : ℕ → Bool) (xs ys : List ℕ) → all t (xs ++ ys) ≡ (all t xs && all t ys)
all_append t [] ys = refl
all_append t (x ∷ xs) ys = ap (λ (b : Bool). t x && b) (all_append t xs ys) ∙ assoc (t x) (all t xs) (all t ys)
  where
    assoc : (a b c : Bool) → (a && (b && c)) ≡ ((a && b) && c)
    assoc true b c = refl
    assoc false b c = refl

module _ (g : List ℕ) (i j a b : ℕ) (hi : i < 9) (hj : j < 9) (ha : a < 9) (hb : b < 9) where
  -- ---- the cells of a unit

  module _ (u : ℕ) (h : u < 27) where
    pair-applies : (m : List ℕ) → applies (pair_step u (unit_cell u i) (unit_cell u j) a b) m ≡ eqb (minus (bit_and (union (at m (unit_cell u i)) (at m (unit_cell u j))) 511) (both a b)) 0
    pair-applies m =
        ap (λ (t : Bool). lacks m (unit_cell u i) (minus 511 (both a b)) && t) (and-true (lacks m (unit_cell u j) (minus 511 (both a b))))
        ∙ ap (λ (t : Bool). t && lacks m (unit_cell u j) (minus 511 (both a b))) (outside-test (at m (unit_cell u i)) (both a b))
        ∙ ap (λ (t : Bool). eqb (minus (bit_and (at m (unit_cell u i)) 511) (both a b)) 0 && t) (outside-test (at m (unit_cell u j)) (both a b))
        ∙ outside-both (at m (unit_cell u i)) (at m (unit_cell u j)) (both a b)

    pub pair-lose : (m : List ℕ) → lose_places (is_open g) u (all_but i j) (both a b) m ≡ two_lose g (Unit u) i j a b m
    unfolding two_lose
    pair-lose m = two-spared u h (is_open g) i j (both a b) hi hj m

  -- ---- rows or columns

  module _ (f h d : ℕ) (over : Crossing f h) where
    -- one line, as the condition reads it
    line-applies : (m : List ℕ) (r : ℕ) → r < 9 → all (λ e. lacks m e (cond (in_unit (h + a) e || in_unit (h + b) e) 0 (single d))) (unit (f + r)) ≡ eqb (minus (bit_and (held_places m (f + r) d) 511) (both a b)) 0
    line-applies m r n =
        confined m (f + r) d (λ e. in_unit (h + a) e || in_unit (h + b) e) (both a b) (over.below r n) says
        ∙ ap (λ (x : ℕ). eqb (minus x (both a b)) 0) (sym (nine-small (held_places m (f + r) d) (held_small m (f + r) d)))
      where
        says : (l : ℕ) → l < 9 → has (both a b) l ≡ (in_unit (h + a) (unit_cell (f + r) l) || in_unit (h + b) (unit_cell (f + r) l))
        says l o =
            has_both a b l
            ∙ sym (ap (λ (t : Bool). t || in_unit (h + b) (unit_cell (f + r) l)) (over.inside r a l n ha o) ∙ ap (λ (t : Bool). eqb l a || t) (over.inside r b l n hb o))

    cross-applies : (m : List ℕ) → applies (cross_step d (f + i) (f + j) (h + a) (h + b)) m ≡ eqb (minus (bit_and (union (held_places m (f + i) d) (held_places m (f + j) d)) 511) (both a b)) 0
    cross-applies m =
        all_append test (unit (f + i)) (unit (f + j))
        ∙ ap (λ (t : Bool). t && all test (unit (f + j))) (line-applies m i hi)
        ∙ ap (λ (t : Bool). eqb (minus (bit_and (held_places m (f + i) d) 511) (both a b)) 0 && t) (line-applies m j hj)
        ∙ outside-both (held_places m (f + i) d) (held_places m (f + j) d) (both a b)
      where
        test : ℕ → Bool
        test e = lacks m e (cond (in_unit (h + a) e || in_unit (h + b) e) 0 (single d))

-- ---- a frame

pub one_of : (t : ℕ → Bool) (i j r : ℕ) → ((k : ℕ) → r ≡ k → t k ≡ true) → (r ≡ i) ⊎ (r ≡ j) → (t i || t j) ≡ true
one_of t i j r q (inl e) = ap (λ (s : Bool). s || t j) (q i e)
one_of t i j r q (inr e) = right (t i) (q j e)
  where
    right : (s : Bool) → t j ≡ true → (s || t j) ≡ true
    right true e = refl
    right false e = e

module _ (g : List ℕ) (i j : ℕ) (hi : i < 9) (hj : j < 9) where
  two-applies : (F : Frame) → Framed F → (m : List ℕ) (a b : ℕ) → a < 9 → b < 9 → applies (frame_step F i j a b) m ≡ eqb (minus (two_held m F i j) (both a b)) 0
  unfolding two_held
  two-applies (Unit u) h m a b ha hb = pair-applies g i j a b hi hj ha hb u h m
  two-applies (Lines f d) h m a b ha hb = cross-applies g i j a b hi hj ha hb f (9 - f) d (crossing f h.0) m

  pub two-taken : (F : Frame) → Framed F → (m : List ℕ) (a b : ℕ) → a < 9 → b < 9 → step_taken (is_open g) (frame_step F i j a b) m ≡ two_turn g F i j (two_held m F i j) a b m
  unfolding step_taken two_turn two_lose
  two-taken F h m a b ha hb = ap (λ (t : Bool). cond t (two_lose g F i j a b m) m) (two-applies F h m a b ha hb)

  -- a line that is one of the two keeps what it holds
  line-keeps : (F : Frame) → Framed F → (r : ℕ) → r < 9 → (r ≡ i) ⊎ (r ≡ j) → (m : List ℕ) (a b : ℕ) → line_held (two_lose g F i j a b m) F r ≡ line_held m F r
  unfolding two_lose
  line-keeps (Unit u) h r n w m a b =
      all-kept (is_open g) (λ x. cond (eqb x (unit_cell u i) || eqb x (unit_cell u j)) 0 (both a b)) (unit_cell u r)
      (ap (λ (t : Bool). cond t 0 (both a b)) (one_of (λ k. eqb (unit_cell u r) (unit_cell u k)) i j r (λ k e. eq-eqb (unit_cell u r) (unit_cell u k) (ap (unit_cell u) e)) w)) (unit u) m
  line-keeps (Lines f d) h r n w m a b =
      held_same (two_lose g (Lines f d) i j a b m) m (f + r) d ((crossing f h.0).below r n)
      (λ l o. ap (λ (x : ℕ). has x d)
      (all-kept (is_open g) (λ e. cond (in_unit (f + i) e || in_unit (f + j) e) 0 (single d)) (unit_cell (f + r) l)
      (ap (λ (t : Bool). cond t 0 (single d)) (one_of (λ k. in_unit (f + k) (unit_cell (f + r) l)) i j r
      (λ k e. subst (λ (x : ℕ). in_unit (f + x) (unit_cell (f + r) l) ≡ true) e (cell_in (f + r) l ((crossing f h.0).below r n) o)) w))
      (unit (9 - f + a) ++ unit (9 - f + b)) m))

  pub two-keeps : (F : Frame) → Framed F → (held a b : ℕ) (m : List ℕ) → two_held (two_turn g F i j held a b m) F i j ≡ two_held m F i j
  unfolding two_held two_turn
  two-keeps F h held a b m =
      by-test (λ (n : List ℕ). bit_and (union (line_held n F i) (line_held n F j)) 511 ≡ bit_and (union (line_held m F i) (line_held m F j)) 511) (eqb (minus held (both a b)) 0) (two_lose g F i j a b m) m
      (λ t. ap (λ (x : ℕ). bit_and (union x (line_held (two_lose g F i j a b m) F j)) 511) (line-keeps F h i hi (inl refl) m a b)
      ∙ ap (λ (x : ℕ). bit_and (union (line_held m F i) x) 511) (line-keeps F h j hj (inr refl) m a b))
      (λ t. refl)

  pub lines-taken : (F : Frame) → Framed F → (m : List ℕ) → lines_taken g F i j m ≡ lines_turned g F i j (two_held m F i j) m
  unfolding lines_taken lines_turned
  lines-taken F h m =
      (each-alike (λ q. step_taken (is_open g) (frame_step F i j (first_of q) (second_of q))) (λ q. two_turn g F i j (two_held m F i j) (first_of q) (second_of q)) (λ (n : List ℕ). two_held n F i j ≡ two_held m F i j) (up_to 36)
      (λ q k n e. (
        two-taken F h n (first_of q) (second_of q) (first_below q (in-up_to 36 q k)) (second_below q (in-up_to 36 q k)) ∙ ap (λ (x : ℕ). two_turn g F i j x (first_of q) (second_of q) n) e,
        two-keeps F h (two_held m F i j) (first_of q) (second_of q) n ∙ e,
      )) m refl).0
