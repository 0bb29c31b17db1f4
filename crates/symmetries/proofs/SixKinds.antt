-- The six kinds of change are symmetries. Assumes nothing.
use mathlib.Core.Path.{◌≡◌, refl, sym, ap, ◌∙◌}
use mathlib.Core.Logic.{◌≢◌}
use mathlib.Core.Bool.{cond}
use Prim.Native.Nat.{ℕ, ◌+◌, ◌-◌, ◌*◌, ◌/◌, ◌%◌, ◌<◌}
use native.Mathlib.Omega.{arith}
use borrow.Author.Tests.{eqb-true, eqb-false, lt-ltb, le-ltb}
use lib.Dec.{eqb, ltb}
use Rattle.candidates.proofs.Tests.{by-test, cond-true, cond-false, eqb-iff}
use Rattle.grid.specs.Cells.{cell, row, col, box}
use Rattle.grid.specs.Units.{in_unit}
use Rattle.grid.proofs.Cells.{row_below, col-below, cell-of, row_of, col-of, box_of_lem, cell-lt}
use Rattle.grid.proofs.Units.{Kind, row-unit, col-unit, box-unit, kind, in_row, in-col, in-box}
use Rattle.symmetries.specs.Changes.{Moves, OneToOne, Symmetry, still, both_ways, swapped, relabelling, lines_moved, carried, InOneGroup, rows_exchanged, columns_exchanged, bands_exchanged, stacks_exchanged, turned}

-- ---- moves that undo themselves

one-still : (n : ℕ) → OneToOne n still
one-still n = record { to = λ i h. h; from = λ i h. h; back = λ i h. refl; forth = λ i h. refl }

one-both : (n : ℕ) (f : ℕ → ℕ) → ((i : ℕ) → i < n → f i < n) → ((i : ℕ) → i < n → f (f i) ≡ i) → OneToOne n (both_ways f)
one-both n f to twice = record { to = to; from = to; back = twice; forth = twice }

-- what holds of a row, a column and a box holds of each unit
by_kind : (P : ℕ → Type 0) → ((r : ℕ) → r < 9 → P r) → ((k : ℕ) → k < 9 → P (9 + k)) → ((b : ℕ) → b < 9 → P (18 + b)) → (u : ℕ) → u < 27 → P u
by_kind P p q t u h = go (kind u h)
  where
    go : {u : ℕ} → Kind u → P u
    go (row-unit r k) = p r k
    go (col-unit r k) = q r k
    go (box-unit r k) = t r k

-- a unit's number, taken apart
module _ (rows columns boxes : ℕ → ℕ) where
  abbrev unit_to : ℕ → ℕ
  unit_to u = cond (ltb u 9) (rows u) (cond (ltb u 18) (columns (u - 9)) (boxes (u - 18)))

  to_row : (r : ℕ) → r < 9 → unit_to r ≡ rows r
  to_row r h = cond-true (ltb r 9) _ _ (lt-ltb r 9 h)

  to-col : (k : ℕ) → k < 9 → unit_to (9 + k) ≡ columns k
  to-col k h = cond-false (ltb (9 + k) 9) _ _ (le-ltb (9 + k) 9 (omega arith)) ∙ cond-true (ltb (9 + k) 18) _ _ (lt-ltb (9 + k) 18 (omega arith)) ∙ ap columns (omega arith)

  to-box : (b : ℕ) → b < 9 → unit_to (18 + b) ≡ boxes b
  to-box b h = cond-false (ltb (18 + b) 9) _ _ (le-ltb (18 + b) 9 (omega arith)) ∙ cond-false (ltb (18 + b) 18) _ _ (le-ltb (18 + b) 18 (omega arith)) ∙ ap boxes (omega arith)

pub labels : (f : Moves) → OneToOne 9 f → Symmetry (relabelling f)
labels f o = record { cells = one-still 81; units = one-still 27; digits = o; inside = λ u c h k. refl }

-- ---- lines that move with their bands or stacks

record Grouped (f β : ℕ → ℕ) : Type 0 where
  to : (i : ℕ) → i < 9 → f i < 9
  twice : (i : ℕ) → i < 9 → f (f i) ≡ i
  group : (i : ℕ) → i < 9 → f i / 3 ≡ β (i / 3)
  group_to : (a : ℕ) → a < 3 → β a < 3
  group_twice : (a : ℕ) → a < 3 → β (β a) ≡ a

module _ {f β : ℕ → ℕ} (o : Grouped f β) where
  line_same : (i j : ℕ) → i < 9 → j < 9 → f i ≡ f j → i ≡ j
  line_same i j h k e = sym (o.twice i h) ∙ ap f e ∙ o.twice j k

  group-same : (a b : ℕ) → a < 3 → b < 3 → β a ≡ β b → a ≡ b
  group-same a b h k e = sym (o.group_twice a h) ∙ ap β e ∙ o.group_twice b k

module _ {rows bands columns stacks : ℕ → ℕ} (R : Grouped rows bands) (K : Grouped columns stacks) where
  abbrev cell_to : ℕ → ℕ
  cell_to c = cell (rows (row c)) (columns (col c))

  abbrev box_to : ℕ → ℕ
  box_to b = 3 * bands (b / 3) + stacks (b % 3)

  abbrev line_to : ℕ → ℕ
  line_to = unit_to rows (λ k. 9 + columns k) (λ b. 18 + box_to b)

  column-lt : (c : ℕ) → columns (col c) < 9
  column-lt c = K.to (col c) (col-below c)

  row-to : (c : ℕ) → row (cell_to c) ≡ rows (row c)
  row-to c = row_of (rows (row c)) (columns (col c)) (column-lt c)

  col-to : (c : ℕ) → col (cell_to c) ≡ columns (col c)
  col-to c = col-of (rows (row c)) (columns (col c)) (column-lt c)

  box-to : (c : ℕ) → c < 81 → box (cell_to c) ≡ 3 * bands (row c / 3) + stacks (col c / 3)
  box-to c h =
      box_of_lem (rows (row c)) (columns (col c)) (column-lt c)
      ∙ (λ i. 3 * R.group (row c) (row_below c h) i + K.group (col c) (col-below c) i)

  cell-twice : (c : ℕ) → c < 81 → cell_to (cell_to c) ≡ c
  cell-twice c h =
      (λ i. cell (rows (row-to c i)) (columns (col-to c i))) ∙ (λ i. cell (R.twice (row c) (row_below c h) i) (K.twice (col c) (col-below c) i))
      ∙ cell-of c

  box_to-lt : (b : ℕ) → b < 9 → box_to b < 9
  box_to-lt b h = omega (arith, R.group_to (b / 3) (omega arith), K.group_to (b % 3) (omega arith))

  box_twice : (b : ℕ) → b < 9 → box_to (box_to b) ≡ b
  box_twice b h = (λ i. 3 * bands (over i) + stacks (beside i)) ∙ (λ i. 3 * R.group_twice (b / 3) (omega arith) i + K.group_twice (b % 3) (omega arith) i) ∙ omega arith
    where
      over : box_to b / 3 ≡ bands (b / 3)
      over = omega (arith, K.group_to (b % 3) (omega arith))

      beside : box_to b % 3 ≡ stacks (b % 3)
      beside = omega (arith, K.group_to (b % 3) (omega arith))

  row_at : (r : ℕ) → r < 9 → line_to r ≡ rows r
  row_at = to_row rows (λ k. 9 + columns k) (λ b. 18 + box_to b)

  col-at : (k : ℕ) → k < 9 → line_to (9 + k) ≡ 9 + columns k
  col-at = to-col rows (λ k. 9 + columns k) (λ b. 18 + box_to b)

  box-at : (b : ℕ) → b < 9 → line_to (18 + b) ≡ 18 + box_to b
  box-at = to-box rows (λ k. 9 + columns k) (λ b. 18 + box_to b)

  unit-lt : (u : ℕ) → u < 27 → line_to u < 27
  unit-lt =
      by_kind (λ u. line_to u < 27) (λ r h. rw (row_at r h) (omega (arith, R.to r h))) (λ k h. rw (col-at k h) (omega (arith, K.to k h)))
      (λ b h. rw (box-at b h) (omega (arith, box_to-lt b h)))

  unit-twice : (u : ℕ) → u < 27 → line_to (line_to u) ≡ u
  unit-twice =
      by_kind (λ u. line_to (line_to u) ≡ u) (λ r h. ap line_to (row_at r h) ∙ row_at (rows r) (R.to r h) ∙ R.twice r h)
      (λ k h. ap line_to (col-at k h) ∙ col-at (columns k) (K.to k h) ∙ ap (λ (x : ℕ). 9 + x) (K.twice k h))
      (λ b h. ap line_to (box-at b h) ∙ box-at (box_to b) (box_to-lt b h) ∙ ap (λ (x : ℕ). 18 + x) (box_twice b h))

  inside : (u c : ℕ) → u < 27 → c < 81 → in_unit (line_to u) (cell_to c) ≡ in_unit u c
  inside u c h l =
      by_kind (λ u. in_unit (line_to u) (cell_to c) ≡ in_unit u c)
      (λ r k. ap (λ (x : ℕ). in_unit x (cell_to c)) (row_at r k) ∙ in_row (rows r) (cell_to c) (R.to r k) ∙ ap (λ (x : ℕ). eqb x (rows r)) (row-to c)
      ∙ eqb-iff (rows (row c)) (rows r) (row c) r (line_same R (row c) r (row_below c l) k) (ap rows) ∙ sym (in_row r c k))
      (λ r k. ap (λ (x : ℕ). in_unit x (cell_to c)) (col-at r k) ∙ in-col (columns r) (cell_to c) (K.to r k) ∙ ap (λ (x : ℕ). eqb x (columns r)) (col-to c)
      ∙ eqb-iff (columns (col c)) (columns r) (col c) r (line_same K (col c) r (col-below c) k) (ap columns) ∙ sym (in-col r c k))
      (λ b k. ap (λ (x : ℕ). in_unit x (cell_to c)) (box-at b k) ∙ in-box (box_to b) (cell_to c) (box_to-lt b k) ∙ ap (λ (x : ℕ). eqb x (box_to b)) (box-to c l)
      ∙ eqb-iff (3 * bands (row c / 3) + stacks (col c / 3)) (box_to b) (box c) b (there b k) (back b k) ∙ sym (in-box b c k)) u h
    where
      band-lt : row c / 3 < 3
      band-lt = omega (arith, row_below c l)

      stack-lt : col c / 3 < 3
      stack-lt = omega (arith, col-below c)

      there : (b : ℕ) → b < 9 → 3 * bands (row c / 3) + stacks (col c / 3) ≡ box_to b → box c ≡ b
      there b k e =
          let p : row c / 3 ≡ b / 3 = group-same R (row c / 3) (b / 3) band-lt (omega arith) (omega (arith, e, K.group_to (col c / 3) stack-lt, K.group_to (b % 3) (omega arith))) in
          let q : col c / 3 ≡ b % 3 = group-same K (col c / 3) (b % 3) stack-lt (omega arith) (omega (arith, e, K.group_to (col c / 3) stack-lt, K.group_to (b % 3) (omega arith))) in
          (λ i. 3 * p i + q i) ∙ omega arith

      back : (b : ℕ) → b < 9 → box c ≡ b → 3 * bands (row c / 3) + stacks (col c / 3) ≡ box_to b
      back b k e = λ i. 3 * bands (p i) + stacks (q i)
        where
          p : row c / 3 ≡ b / 3
          p = omega (arith, stack-lt)

          q : col c / 3 ≡ b % 3
          q = omega (arith, stack-lt)

  lines-moved : Symmetry (lines_moved rows bands columns stacks)
  lines-moved =
      record {
        cells = one-both 81 cell_to (λ c h. cell-lt (rows (row c)) (columns (col c)) (R.to (row c) (row_below c h)) (column-lt c)) cell-twice;
        units = one-both 27 line_to unit-lt unit-twice;
        digits = one-still 9;
        inside = inside;
      }

-- ---- two that change places

by-swap : (P : ℕ → Type 0) (a b i : ℕ) → (i ≡ a → P b) → (i ≡ b → P a) → (i ≢ a → i ≢ b → P i) → P (swapped a b i)
by-swap P a b i p q r =
    by-test P (eqb i a) b (cond (eqb i b) a i) (λ t. p (eqb-true i a t))
    (λ t. by-test P (eqb i b) a i (λ s. q (eqb-true i b s)) (λ s. r (eqb-false i a t) (eqb-false i b s)))

swap-lt : (n a b i : ℕ) → a < n → b < n → i < n → swapped a b i < n
swap-lt n a b i h k l = by-swap (λ x. x < n) a b i (λ e. k) (λ e. h) (λ e f. l)

swap-twice : (a b i : ℕ) → swapped a b (swapped a b i) ≡ i
swap-twice a b i =
    by-swap (λ x. swapped a b x ≡ i) a b i (λ e. by-swap (λ x. x ≡ i) a b b (λ q. q ∙ sym e) (λ q. sym e) (λ p q. absurd (q refl)))
    (λ e. by-swap (λ x. x ≡ i) a b a (λ q. sym e) (λ q. q ∙ sym e) (λ p q. absurd (p refl)))
    (λ e f. by-swap (λ x. x ≡ i) a b i (λ q. absurd (e q)) (λ q. absurd (f q)) (λ p q. refl))

-- lines that stay
standing : Grouped (λ i. i) (λ i. i)
standing = record { to = λ i h. h; twice = λ i h. refl; group = λ i h. refl; group_to = λ a h. h; group_twice = λ a h. refl }

-- two lines of one band or stack
together : (r s : ℕ) → r < 9 → s < 9 → InOneGroup r s → Grouped (swapped r s) (λ i. i)
together r s h k e =
    record {
      to = λ i l. swap-lt 9 r s i h k l;
      twice = λ i l. swap-twice r s i;
      group = λ i l. by-swap (λ x. x / 3 ≡ i / 3) r s i (λ q. omega arith) (λ q. omega arith) (λ q p. refl);
      group_to = λ a l. l;
      group_twice = λ a l. refl;
    }

-- whole bands or stacks
whole : (a b : ℕ) → a < 3 → b < 3 → Grouped (carried (swapped a b)) (swapped a b)
whole a b h k =
    record {
      to = λ i l. omega (arith, lt i l);
      twice = λ i l. (λ j. 3 * swapped a b (over i l j) + beside i l j) ∙ (λ j. 3 * swap-twice a b (i / 3) j + i % 3) ∙ omega arith;
      group = over;
      group_to = λ i l. swap-lt 3 a b i h k l;
      group_twice = λ i l. swap-twice a b i;
    }
  where
    lt : (i : ℕ) → i < 9 → swapped a b (i / 3) < 3
    lt i l = swap-lt 3 a b (i / 3) h k (omega arith)

    over : (i : ℕ) → i < 9 → carried (swapped a b) i / 3 ≡ swapped a b (i / 3)
    over i l = omega arith

    beside : (i : ℕ) → i < 9 → carried (swapped a b) i % 3 ≡ i % 3
    beside i l = omega arith

pub rows-exchange : (r s : ℕ) → r < 9 → s < 9 → InOneGroup r s → Symmetry (rows_exchanged r s)
rows-exchange r s h k e = lines-moved (together r s h k e) standing

pub columns-exchange : (k l : ℕ) → k < 9 → l < 9 → InOneGroup k l → Symmetry (columns_exchanged k l)
columns-exchange k l h j e = lines-moved standing (together k l h j e)

pub bands-exchange : (a b : ℕ) → a < 3 → b < 3 → Symmetry (bands_exchanged a b)
bands-exchange a b h k = lines-moved (whole a b h k) standing

pub stacks-exchange : (a b : ℕ) → a < 3 → b < 3 → Symmetry (stacks_exchanged a b)
stacks-exchange a b h k = lines-moved standing (whole a b h k)

-- ---- rows with columns

abbrev cell_turned : ℕ → ℕ
cell_turned c = cell (col c) (row c)

abbrev box_turned : ℕ → ℕ
box_turned b = 3 * (b % 3) + b / 3

abbrev unit_turned : ℕ → ℕ
unit_turned = unit_to (λ r. 9 + r) (λ k. k) (λ b. 18 + box_turned b)

row-turned : (r : ℕ) → r < 9 → unit_turned r ≡ 9 + r
row-turned = to_row (λ r. 9 + r) (λ k. k) (λ b. 18 + box_turned b)

col-turned : (k : ℕ) → k < 9 → unit_turned (9 + k) ≡ k
col-turned = to-col (λ r. 9 + r) (λ k. k) (λ b. 18 + box_turned b)

box-turned : (b : ℕ) → b < 9 → unit_turned (18 + b) ≡ 18 + box_turned b
box-turned = to-box (λ r. 9 + r) (λ k. k) (λ b. 18 + box_turned b)

pub turns : Symmetry turned
turns =
    record {
      cells = one-both 81 cell_turned (λ c h. cell-lt (col c) (row c) (col-below c) (row_below c h)) (λ c h. (λ i. cell (cell-col c h i) (cell_row c h i)) ∙ cell-of c);
      units = one-both 27 unit_turned
          (by_kind (λ u. unit_turned u < 27) (λ r h. rw (row-turned r h) (omega arith)) (λ k h. rw (col-turned k h) (omega arith)) (λ b h. rw (box-turned b h) (omega arith)))
          (by_kind (λ u. unit_turned (unit_turned u) ≡ u) (λ r h. ap unit_turned (row-turned r h) ∙ col-turned r h) (λ k h. ap unit_turned (col-turned k h) ∙ row-turned k h)
          (λ b h. ap unit_turned (box-turned b h) ∙ box-turned (box_turned b) (omega arith) ∙ omega arith));
      digits = one-still 9;
      inside = λ u c h l.
          by_kind (λ u. in_unit (unit_turned u) (cell_turned c) ≡ in_unit u c)
          (λ r k. ap (λ (x : ℕ). in_unit x (cell_turned c)) (row-turned r k) ∙ in-col r (cell_turned c) k ∙ ap (λ (x : ℕ). eqb x r) (cell-col c l) ∙ sym (in_row r c k))
          (λ r k. ap (λ (x : ℕ). in_unit x (cell_turned c)) (col-turned r k) ∙ in_row r (cell_turned c) k ∙ ap (λ (x : ℕ). eqb x r) (cell_row c l) ∙ sym (in-col r c k))
          (λ b k. ap (λ (x : ℕ). in_unit x (cell_turned c)) (box-turned b k) ∙ in-box (box_turned b) (cell_turned c) (omega arith)
          ∙ ap (λ (x : ℕ). eqb x (box_turned b)) (box_of_lem (col c) (row c) (row_below c l))
          ∙ eqb-iff (3 * (col c / 3) + row c / 3) (box_turned b) (box c) b (λ e. omega (arith, row_below c l, col-below c)) (λ e. omega (arith, row_below c l, col-below c))
          ∙ sym (in-box b c k)) u h;
    }
  where
    cell-col : (c : ℕ) → c < 81 → col (cell_turned c) ≡ row c
    cell-col c h = col-of (col c) (row c) (row_below c h)

    cell_row : (c : ℕ) → c < 81 → row (cell_turned c) ≡ col c
    cell_row c h = row_of (col c) (row c) (row_below c h)
