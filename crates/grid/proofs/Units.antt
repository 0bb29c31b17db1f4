-- The unit table: its rule, one equation that the checker computes over the whole table, and the laws on a unit's cells,
-- their places and its kind. Assumes nothing.
use mathlib.Core.Path.{◌≡◌, refl, sym, ap, ◌∙◌, subst}
use mathlib.Core.Logic.{◌≢◌}
use mathlib.Core.Bool.{true, cond}
use mathlib.Core.List.Memᴰ
use mathlib.Core.List.{List, [], map, Memᴰ}
use Prim.Native.Nat.{ℕ, ◌+◌, ◌-◌, ◌*◌, ◌/◌, ◌%◌, ◌≤◌, ◌<◌}
use native.Mathlib.Decide.{dec_lt}
use native.Mathlib.Omega.{arith}
use borrow.Author.Tests.{lt-ltb, le-ltb, eqb-true}
use lib.Dec.{eqb, ltb, eqb→eq, ltb→lt}
use lib.ListN.{length, get_or, get_or-eq_default}
use Rattle.grid.specs.Lists.{range, select}
use Rattle.grid.specs.Cells.{row, col, box, cells}
use Rattle.grid.specs.Units.{units, unit, unit_cell, in_unit, Member}
use Rattle.grid.proofs.Lists.{at-up_to, mem-place, place-mem}
use Rattle.candidates.proofs.Tests.{all_below, below, below_both, implies, implied, T_true, cond-true, cond-false}

-- ---- a unit is the list of the cells that the rule names

table : units ≡ map (λ u. select (in_unit u) cells) (range 27 0)
unfolding units cells
table = refl

pub unit-is : (u : ℕ) → u < 27 → unit u ≡ select (in_unit u) cells
unfolding unit
unit-is u h =
    ap (λ (t : List (List ℕ)). get_or t u []) table
    ∙ at-up_to (λ u. select (in_unit u) cells) [] 27 u h

-- ---- a unit as an array holds it

pub unit-length : (u : ℕ) → u < 27 → length (unit u) ≡ 9
unfolding unit units
unit-length u h = eqb→eq (length (unit u)) 9 (below 27 (λ u. eqb (length (unit u)) 9) tt u h)

pub past-table : (u : ℕ) → 27 ≤ u → unit u ≡ []
unfolding unit units
past-table u h = get_or-eq_default units [] h

pub past-unit : (u i : ℕ) → 9 ≤ i → unit_cell u i ≡ 81
past-unit u i h = get_or-eq_default (unit u) 81 (go (dec_lt u 27))
  where
    go : Dec (u < 27) → length (unit u) ≤ i
    go (yes k) = omega (arith, unit-length u k)
    go (no k) = omega (arith, ap (λ (l : List ℕ). length l) (past-table u (omega arith)))

-- the cell at a place, worked out
abbrev worked : ℕ → ℕ → ℕ
worked u i = cond (ltb u 9) (9 * u + i) (cond (ltb u 18) (u - 9 + 9 * i) (27 * ((u - 18) / 3) + 3 * ((u - 18) % 3) + 9 * (i / 3) + i % 3))

module _ (u i : ℕ) (l : i < 9) where
  is-worked : u < 27 → unit_cell u i ≡ worked u i
  unfolding unit units
  is-worked h = eqb→eq (unit_cell u i) (worked u i) (below_both 27 9 (λ u i. eqb (unit_cell u i) (worked u i)) tt u i h l)

  pub row-cell : u < 9 → 9 * u + i ≡ unit_cell u i
  row-cell h = sym (is-worked (omega arith) ∙ cond-true (ltb u 9) _ _ (lt-ltb u 9 h))

  pub col-cell : 9 ≤ u → u < 18 → u - 9 + 9 * i ≡ unit_cell u i
  col-cell n h = sym (is-worked (omega arith) ∙ cond-false (ltb u 9) _ _ (le-ltb u 9 n) ∙ cond-true (ltb u 18) _ _ (lt-ltb u 18 h))

  pub box-cell : 18 ≤ u → u < 27 → 27 * ((u - 18) / 3) + 3 * ((u - 18) % 3) + 9 * (i / 3) + i % 3 ≡ unit_cell u i
  box-cell n h = sym (is-worked h ∙ cond-false (ltb u 9) _ _ (le-ltb u 9 (omega arith)) ∙ cond-false (ltb u 18) _ _ (le-ltb u 18 n))

pub past-cell : (u i : ℕ) → 27 ≤ u → 81 ≡ unit_cell u i
past-cell u i h = sym (ap (λ (l : List ℕ). get_or l i 81) (past-table u h))

-- ---- places: where in a unit a cell of it stands

abbrev pub place_in : ℕ → ℕ → ℕ
place_in u c = cond (ltb u 9) (col c) (cond (ltb u 18) (row c) (3 * (row c % 3) + col c % 3))

pub cell_below : (u i : ℕ) → u < 27 → i < 9 → unit_cell u i < 81
unfolding unit units
cell_below u i h k = ltb→lt (unit_cell u i) 81 (below_both 27 9 (λ u i. ltb (unit_cell u i) 81) tt u i h k)

-- a cell's number fits a byte, and so does 81
pub cell-small : (u i : ℕ) → unit_cell u i ≤ 81
cell-small u i = go (dec_lt u 27) (dec_lt i 9)
  where
    go : Dec (u < 27) → Dec (i < 9) → unit_cell u i ≤ 81
    go (yes h) (yes k) = omega (arith, cell_below u i h k)
    go (yes h) (no k) = omega (arith, past-unit u i (omega arith))
    go (no h) k = omega (arith, past-cell u i (omega arith))

pub cell_in : (u i : ℕ) → u < 27 → i < 9 → in_unit u (unit_cell u i) ≡ true
unfolding unit units
cell_in u i h k = T_true (in_unit u (unit_cell u i)) (below_both 27 9 (λ u i. in_unit u (unit_cell u i)) tt u i h k)

pub cell-place : (u i : ℕ) → u < 27 → i < 9 → place_in u (unit_cell u i) ≡ i
unfolding unit units
cell-place u i h k =
    eqb→eq (place_in u (unit_cell u i)) i (below_both 27 9 (λ u i. eqb (place_in u (unit_cell u i)) i) tt u i h k)

pub place-below : (u c : ℕ) → u < 27 → c < 81 → place_in u c < 9
place-below u c h k = ltb→lt (place_in u c) 9 (below_both 27 81 (λ u c. ltb (place_in u c) 9) tt u c h k)

pub place-cell : (u c : ℕ) → u < 27 → c < 81 → in_unit u c ≡ true → unit_cell u (place_in u c) ≡ c
unfolding unit units
place-cell u c h k e =
    eqb→eq (unit_cell u (place_in u c)) c
    (implied (in_unit u c) (eqb (unit_cell u (place_in u c)) c)
    (below_both 27 81 (λ u c. implies (in_unit u c) (eqb (unit_cell u (place_in u c)) c)) tt u c h k) e)

-- "rising"
pub cells-rise : (u i j : ℕ) → u < 27 → i < j → j < 9 → unit_cell u i < unit_cell u j
unfolding unit units
cells-rise u i j h l k =
    ltb→lt (unit_cell u i) (unit_cell u j)
    (below j (λ i. ltb (unit_cell u i) (unit_cell u j))
    (below_both 27 9 (λ u j. all_below j (λ i. ltb (unit_cell u i) (unit_cell u j))) tt u j h k) i l)

-- different places hold different cells
pub same_place : (u i j : ℕ) → u < 27 → i < 9 → j < 9 → unit_cell u i ≡ unit_cell u j → i ≡ j
same_place u i j h k l e = sym (cell-place u i h k) ∙ ap (place_in u) e ∙ cell-place u j h l

pub cells-differ : (u i j : ℕ) → u < 27 → i < 9 → j < 9 → i ≢ j → unit_cell u i ≢ unit_cell u j
cells-differ u i j h k l n e = n (same_place u i j h k l e)

-- ---- the cells of a unit are those of the rule

pub at_place : (u i : ℕ) → i < 9 → Member u (unit_cell u i)
at_place u i k = record { place = i; within = k; is = refl }

pub member_below : {u c : ℕ} → u < 27 → Member u c → c < 81
member_below {u} h m = subst (λ (d : ℕ). d < 81) m.is (cell_below u m.place h m.within)

pub member-in : {u c : ℕ} → u < 27 → Member u c → in_unit u c ≡ true
member-in {u} h m = subst (λ (d : ℕ). in_unit u d ≡ true) m.is (cell_in u m.place h m.within)

pub in-member : (u c : ℕ) → u < 27 → c < 81 → in_unit u c ≡ true → Member u c
in-member u c h k e = record { place = place_in u c; within = place-below u c h k; is = place-cell u c h k e }

-- the same by the list
pub member-mem : {u c : ℕ} → u < 27 → Member u c → Memᴰ c (unit u)
member-mem {u} h m =
    let n = unit-length u h in
    let k = m.within in
    Memᴰ.cast (sym m.is) (place-mem (unit u) 81 m.place (omega arith))

pub mem-member : {u c : ℕ} → u < 27 → Memᴰ c (unit u) → Member u c
mem-member {u} h m =
    let p = mem-place 81 m in
    let k = p.1 in
    record { place = p.0; within = omega (arith, unit-length u h); is = p.2 }

-- ---- the rule at a row, a column and a box

pub in_row : (r c : ℕ) → r < 9 → in_unit r c ≡ eqb (row c) r
in_row r c h = cond-true (ltb r 9) _ _ (lt-ltb r 9 h)

pub in-col : (k c : ℕ) → k < 9 → in_unit (9 + k) c ≡ eqb (col c) k
in-col k c h =
    cond-false (ltb (9 + k) 9) _ _ (le-ltb (9 + k) 9 (omega arith)) ∙ cond-true (ltb (9 + k) 18) _ _ (lt-ltb (9 + k) 18 (omega arith))
    ∙ ap (eqb (col c)) (omega arith)

pub in-box : (b c : ℕ) → b < 9 → in_unit (18 + b) c ≡ eqb (box c) b
in-box b c h =
    cond-false (ltb (18 + b) 9) _ _ (le-ltb (18 + b) 9 (omega arith)) ∙ cond-false (ltb (18 + b) 18) _ _ (le-ltb (18 + b) 18 (omega arith))
    ∙ cond-true (ltb (18 + b) 27) _ _ (lt-ltb (18 + b) 27 (omega arith))
    ∙ ap (eqb (box c)) (omega arith)

-- which of the three a unit is
pub data Kind : ℕ → Type 0 where
  row-unit : (r : ℕ) → r < 9 → Kind r
  col-unit : (k : ℕ) → k < 9 → Kind (9 + k)
  box-unit : (b : ℕ) → b < 9 → Kind (18 + b)

pub kind : (u : ℕ) → u < 27 → Kind u
kind u h = go (dec_lt u 9) (dec_lt u 18)
  where
    go : Dec (u < 9) → Dec (u < 18) → Kind u
    go (yes k) d = row-unit u k
    go (no k) (yes l) = subst Kind (omega arith) (col-unit (u - 9) (omega arith))
    go (no k) (no l) = subst Kind (omega arith) (box-unit (u - 18) (omega arith))

-- a cell is in its row, its column and its box, and in no other unit
pub by-unit : (P : ℕ → Type 0) (c : ℕ) → P (row c) → P (9 + col c) → P (18 + box c) → (u : ℕ) → Kind u → in_unit u c ≡ true → P u
by-unit P c p q t u (row-unit r h) e = subst P (eqb-true (row c) r (sym (in_row r c h) ∙ e)) p
by-unit P c p q t u (col-unit k h) e = subst (λ (v : ℕ). P (9 + v)) (eqb-true (col c) k (sym (in-col k c h) ∙ e)) q
by-unit P c p q t u (box-unit b h) e = subst (λ (v : ℕ). P (18 + v)) (eqb-true (box c) b (sym (in-box b c h) ∙ e)) t

-- the column of the cell at a place of a row, and the row of one of a column
pub col-place : (r i : ℕ) → r < 9 → i < 9 → col (unit_cell r i) ≡ i
unfolding unit units
col-place r i h l = eqb→eq (col (unit_cell r i)) i (below_both 9 9 (λ r i. eqb (col (unit_cell r i)) i) tt r i h l)

pub row-place : (c i : ℕ) → c < 9 → i < 9 → row (unit_cell (9 + c) i) ≡ i
unfolding unit units
row-place c i h l = eqb→eq (row (unit_cell (9 + c) i)) i (below_both 9 9 (λ c i. eqb (row (unit_cell (9 + c) i)) i) tt c i h l)
