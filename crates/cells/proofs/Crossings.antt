-- Rows and columns cross: the i-th cell of a line lies in the i-th line across it; what lines across lose at all places but two. Assumes nothing.
use mathlib.Core.Path.{◌≡◌, sym, ap, ◌∙◌}
use mathlib.Core.Bool.{Bool, cond, not, ◌||◌}
use mathlib.Core.List.{List, ◌++◌}
use Prim.Native.Nat.{ℕ, ◌+◌, ◌<◌}
use native.Mathlib.Nat.{zero-add}
use native.Mathlib.Omega.{arith}
use lib.Dec.{eqb, eqb→eq}
use Rattle.candidates.specs.Masks.{has, single, place_mask}
use Rattle.candidates.proofs.Tests.{below_both}
use Rattle.grid.specs.Cells.{col}
use Rattle.grid.specs.Units.{units, unit, unit_cell, in_unit}
use Rattle.grid.proofs.Units.{in_row, in-col, col-place, row-place}
use Rattle.steps.specs.Boards.{is_open}
use Rattle.steps.specs.Steps.{lose_at, lose_all}
use Rattle.steps.proofs.Loops.{each_append}
use Rattle.cells.specs.code.Places.{lose_places, all_but}
use Rattle.cells.proofs.NineBits.{place_is}
use Rattle.cells.proofs.UnitPlaces.{has-all_but, spared-lose}

-- nine lines from f and nine from h: the i-th cell of a line lies in the i-th line that crosses it
pub record Crossing (f h : ℕ) : Type 0 where
  pub below : (r : ℕ) → r < 9 → f + r < 27
  pub cell : (r c : ℕ) → r < 9 → c < 9 → unit_cell (h + c) r ≡ unit_cell (f + r) c
  pub inside : (r c i : ℕ) → r < 9 → c < 9 → i < 9 → in_unit (h + c) (unit_cell (f + r) i) ≡ eqb i c

same-cell : (r c : ℕ) → r < 9 → c < 9 → unit_cell (9 + c) r ≡ unit_cell r c
unfolding unit units
same-cell r c h l = eqb→eq (unit_cell (9 + c) r) (unit_cell r c) (below_both 9 9 (λ r c. eqb (unit_cell (9 + c) r) (unit_cell r c)) tt r c h l)

pub rows : Crossing 0 9
rows = record {
  below = λ r h. omega arith;
  cell = λ r c h l. same-cell r c h l ∙ ap (λ (u : ℕ). unit_cell u c) (sym (zero-add r));
  inside = λ r c i h l n. in-col c (unit_cell (0 + r) i) l ∙ ap (λ (u : ℕ). eqb (col (unit_cell u i)) c) (zero-add r) ∙ ap (λ (x : ℕ). eqb x c) (col-place r i h n);
}

pub columns : Crossing 9 0
columns = record {
  below = λ r h. omega arith;
  cell = λ r c h l. ap (λ (u : ℕ). unit_cell u r) (zero-add c) ∙ sym (same-cell c r l h);
  inside = λ r c i h l n. ap (λ (u : ℕ). in_unit u (unit_cell (9 + r) i)) (zero-add c) ∙ in_row c (unit_cell (9 + r) i) l ∙ ap (λ (x : ℕ). eqb x c) (row-place r i h n);
}

-- ---- the lines across lose a digit, but for the places i and j

module _ (g : List ℕ) (f h d i j : ℕ) (back : Crossing h f) (hd : d < 9) (hi : i < 9) (hj : j < 9) where
  -- what a cell loses
  abbrev but : ℕ → ℕ
  but e = cond (in_unit (f + i) e || in_unit (f + j) e) 0 (single d)

  across-lose : (c : ℕ) (m : List ℕ) → c < 9 → lose_places (is_open g) (h + c) (all_but i j) (place_mask d) m ≡ lose_all (is_open g) (unit (h + c)) but m
  across-lose c m n =
      spared-lose (h + c) (back.below c n) (is_open g) (all_but i j) (place_mask d) (λ e. in_unit (f + i) e || in_unit (f + j) e) says m
      ∙ ap (λ (k : ℕ). lose_all (is_open g) (unit (h + c)) (λ e. cond (in_unit (f + i) e || in_unit (f + j) e) 0 k) m) (place_is d hd)
    where
      says : (l : ℕ) → l < 9 → has (all_but i j) l ≡ not (in_unit (f + i) (unit_cell (h + c) l) || in_unit (f + j) (unit_cell (h + c) l))
      says l o =
          has-all_but i j l o
          ∙ sym (ap not (ap (λ (t : Bool). t || in_unit (f + j) (unit_cell (h + c) l)) (back.inside c i l n hi o) ∙ ap (λ (t : Bool). eqb l i || t) (back.inside c j l n hj o)))

  pub two-across : (a b : ℕ) → a < 9 → b < 9 → (m : List ℕ)
      → lose_places (is_open g) (h + b) (all_but i j) (place_mask d) (lose_places (is_open g) (h + a) (all_but i j) (place_mask d) m) ≡ lose_all (is_open g) (unit (h + a) ++ unit (h + b)) but m
  two-across a b ha hb m =
      across-lose b _ hb ∙ ap (lose_all (is_open g) (unit (h + b)) but) (across-lose a m ha)
      ∙ sym (each_append (λ e. lose_at (is_open g) e (but e)) (unit (h + a)) (unit (h + b)) m)
