-- A symmetry takes lines to lines and boxes to boxes, since two lines have just one cell in common and a box has three with each unit that it meets. Assumes nothing.
use mathlib.Core.Path.{◌≡◌, sym, ap, ◌∙◌, subst}
use mathlib.Core.Logic.{◌≢◌, ◌⊎◌, inl, inr, ⊎_elim}
use mathlib.Core.Bool.{true}
use Prim.Native.Nat.{ℕ, ◌+◌, ◌*◌, ◌/◌, ◌%◌, ◌≤◌, ◌<◌}
use native.Mathlib.Decide.{dec_lt}
use native.Mathlib.Omega.{arith}
use Rattle.grid.specs.Cells.{cell, row, col, box, sees}
use Rattle.grid.specs.Units.{Member, ShareUnit}
use Rattle.grid.proofs.Cells.{row_below, col-below, cell-of, row_of, col-of, box_of_lem, cell-lt, row_in, col-in, box_in_lem, sees-shared, shared_sees}
use Rattle.grid.proofs.Units.{Kind, row-unit, col-unit, box-unit, kind, member_below, member-in, in-member}
use Rattle.steps.specs.Published.{Rows, Columns, Crossing}
use Rattle.steps.specs.Wide.{Meets}
use Rattle.steps.proofs.Members.{member-row, member-col, member-box, row-meets}
use Rattle.symmetries.specs.Changes.{Change, Symmetry}
use Rattle.symmetries.proofs.Moves.{symmetry-undone, same-to}

-- ---- cells of one unit

row-member : (c u : ℕ) → c < 81 → row c ≡ u → Member u c
row-member c u h e = subst (λ (v : ℕ). Member v c) e (in-member (row c) c (omega (arith, row_below c h)) h (row_in c h))

col-member : (c u : ℕ) → c < 81 → 9 + col c ≡ u → Member u c
col-member c u h e = subst (λ (v : ℕ). Member v c) e (in-member (9 + col c) c (omega (arith, col-below c)) h (col-in c))

box-member : (c u : ℕ) → c < 81 → 18 + box c ≡ u → Member u c
box-member c u h e = subst (λ (v : ℕ). Member v c) e (in-member (18 + box c) c (omega (arith, row_below c h, col-below c)) h (box_in_lem c h))

-- the next line of the same band or stack
next_line : ℕ → ℕ
next_line k = 3 * (k / 3) + (k + 1) % 3

next-lt : (k : ℕ) → k < 9 → next_line k < 9
unfolding next_line
next-lt k h = omega arith

next-other : (k : ℕ) → next_line k ≢ k
unfolding next_line
next-other k e = omega arith

next-group : (k : ℕ) → next_line k / 3 ≡ k / 3
unfolding next_line
next-group k = omega arith

-- another cell of the box in a unit u that meets it in c
record Another (b u c : ℕ) : Type 0 where
  cell : ℕ
  other : cell ≢ c
  in_box : Member b cell
  in_unit : Member u cell

another : (b u c : ℕ) → 18 ≤ b → b < 27 → u < 27 → Member b c → Member u c → Another b u c
another b u c hb lb hu mb mu = go (kind u hu) mu
  where
    r : ℕ
    r = row c

    k : ℕ
    k = col c

    -- the next cell along the row, and along the column
    x : ℕ
    x = cell r (next_line k)

    y : ℕ
    y = cell (next_line r) k

    column-lt : next_line k < 9
    column-lt = next-lt k (col-below c)

    row_lt : r < 9
    row_lt = row_below c (member_below lb mb)

    x_lt : x < 81
    x_lt = cell-lt r (next_line k) row_lt column-lt

    y-lt : y < 81
    y-lt = cell-lt (next_line r) k (next-lt r row_lt) (col-below c)

    x-box : box x ≡ box c
    x-box = box_of_lem r (next_line k) column-lt ∙ ap (λ (z : ℕ). 3 * (r / 3) + z) (next-group k)

    y-box : box y ≡ box c
    y-box = box_of_lem (next_line r) k (col-below c) ∙ ap (λ (z : ℕ). 3 * z + k / 3) (next-group r)

    beside : {u : ℕ} → Member u x → Another b u c
    beside m =
        record {
          cell = x;
          other = λ e. next-other k (sym (col-of r (next_line k) column-lt) ∙ ap col e);
          in_box = box-member x b x_lt (ap (λ (z : ℕ). 18 + z) x-box ∙ member-box mb hb lb);
          in_unit = m;
        }

    under : {u : ℕ} → Member u y → Another b u c
    under m =
        record {
          cell = y;
          other = λ e. next-other r (sym (row_of (next_line r) k (col-below c)) ∙ ap row e);
          in_box = box-member y b y-lt (ap (λ (z : ℕ). 18 + z) y-box ∙ member-box mb hb lb);
          in_unit = m;
        }

    go : {u : ℕ} → Kind u → Member u c → Another b u c
    go (row-unit v h) m = beside (row-member x v x_lt (row_of r (next_line k) column-lt ∙ member-row m h))
    go (col-unit v h) m = under (col-member y (9 + v) y-lt (ap (λ (z : ℕ). 9 + z) (col-of (next_line r) k (col-below c)) ∙ member-col m (omega arith) (omega arith)))
    go (box-unit v h) m = beside (box-member x (18 + v) x_lt (ap (λ (z : ℕ). 18 + z) x-box ∙ member-box m (omega arith) (omega arith)))

-- a row and a column, in either order
abbrev Opposite : ℕ → ℕ → Type 0
Opposite u v = ((u < 9) × (9 ≤ v) × (v < 18)) ⊎ ((9 ≤ u) × (u < 18) × (v < 9))

-- they have just one cell in common
one_cell : {u v e f : ℕ} → Opposite u v → Member u e → Member v e → Member u f → Member v f → e ≡ f
one_cell {u} {v} {e} {f} (inl o) p q s t =
    sym (cell-of e) ∙ (λ i. cell ((member-row p o.0 ∙ sym (member-row s o.0)) i) (same i)) ∙ cell-of f
  where
    same : col e ≡ col f
    same = omega (arith, member-col q o.1 o.2, member-col t o.1 o.2)
one_cell {u} {v} {e} {f} (inr o) p q s t =
    sym (cell-of e) ∙ (λ i. cell ((member-row q o.2 ∙ sym (member-row t o.2)) i) (same i)) ∙ cell-of f
  where
    same : col e ≡ col f
    same = omega (arith, member-col p o.0 o.1, member-col s o.0 o.1)

-- two different lines that have a cell in common are a row and a column
opposite : {u v e : ℕ} → u < 18 → v < 18 → u ≢ v → Member u e → Member v e → Opposite u v
opposite {u} {v} {e} h k n p q = go (dec_lt u 9) (dec_lt v 9)
  where
    go : Dec (u < 9) → Dec (v < 9) → Opposite u v
    go (yes a) (yes b) = absurd (n (sym (member-row p a) ∙ member-row q b))
    go (yes a) (no b) = inl (a, omega arith, k)
    go (no a) (yes b) = inr (omega arith, h, b)
    go (no a) (no b) = absurd (n (sym (member-col p (omega arith) h) ∙ member-col q (omega arith) k))

-- each line has one that crosses it
record Crossed (u : ℕ) : Type 0 where
  line : ℕ
  across : Opposite u line
  shared : ℕ
  here : Member u shared
  there : Member line shared

crossed : (u : ℕ) → u < 18 → Crossed u
crossed u h = go (dec_lt u 9)
  where
    go : Dec (u < 9) → Crossed u
    go (yes k) =
        let m = row-meets {r = u} {k = 9} k (omega arith) (omega arith) in
        record { line = 9; across = inl (k, omega arith, omega arith); shared = m.0; here = m.1; there = m.2 }
    go (no k) =
        let m = row-meets {r = 0} {k = u} (omega arith) (omega arith) h in
        record { line = 0; across = inr (omega arith, h, omega arith); shared = m.0; here = m.2; there = m.1 }

crosser-below : {u v : ℕ} → Opposite u v → v < 27
crosser-below (inl o) = omega (arith, o.2)
crosser-below (inr o) = omega (arith, o.2)

-- ---- what a symmetry keeps

module _ {w : Change} (s : Symmetry w) where
  pub member-to : {u c : ℕ} → u < 27 → Member u c → Member (w.units.to u) (w.cells.to c)
  member-to {u} {c} h m =
      let l = member_below h m in
      in-member (w.units.to u) (w.cells.to c) (s.units.to u h) (s.cells.to c l) (s.inside u c h l ∙ member-in h m)

  pub share-to : {a b : ℕ} → ShareUnit a b → ShareUnit (w.cells.to a) (w.cells.to b)
  share-to {a} {b} p =
      record {
        different = λ e. p.different (same-to s.cells (member_below p.within p.first) (member_below p.within p.second) e);
        shared = w.units.to p.shared;
        within = s.units.to p.shared p.within;
        first = member-to p.within p.first;
        second = member-to p.within p.second;
      }

  pub sees-to : (a b : ℕ) → a < 81 → b < 81 → sees a b ≡ true → sees (w.cells.to a) (w.cells.to b) ≡ true
  sees-to a b h k t = shared_sees (share-to (sees-shared a b h k t))

-- a cell of a unit's image comes from a cell of the unit
module _ {w : Change} (s : Symmetry w) where
  pub member-from : {u c : ℕ} → u < 27 → Member (w.units.to u) c → Member u (w.cells.from c)
  member-from {u} {c} h m = subst (λ (v : ℕ). Member v (w.cells.from c)) (s.units.back u h) (member-to (symmetry-undone s) (s.units.to u h) m)

  line-to : (u : ℕ) → u < 18 → w.units.to u < 18
  line-to u h = go (dec_lt (w.units.to u) 18)
    where
      k : Crossed u
      k = crossed u h

      low : k.line < 27
      low = crosser-below k.across

      go : Dec (w.units.to u < 18) → w.units.to u < 18
      go (yes l) = l
      go (no l) =
          let a = another (w.units.to u) (w.units.to k.line) (w.cells.to k.shared) (omega arith) (s.units.to u (omega arith)) (s.units.to k.line low)
          (member-to s (omega arith) k.here) (member-to s low k.there) in
          let e = one_cell k.across (member-from (omega arith) a.in_box) (member-from low a.in_unit) k.here k.there in
          absurd (a.other (sym (s.cells.forth a.cell (member_below (s.units.to u (omega arith)) a.in_box)) ∙ ap w.cells.to e))

module _ {w : Change} (s : Symmetry w) where
  box-to : (u : ℕ) → 18 ≤ u → u < 27 → 18 ≤ w.units.to u
  box-to u h k = go (dec_lt (w.units.to u) 18)
    where
      go : Dec (w.units.to u < 18) → 18 ≤ w.units.to u
      go (yes l) = absurd (omega (arith, line-to (symmetry-undone s) (w.units.to u) l, s.units.back u k))
      go (no l) = omega arith

  pub meets-to : {u v : ℕ} → Meets u v → Meets (w.units.to u) (w.units.to v)
  meets-to {u} {v} m =
      record {
        box = (box-to u m.box.0 m.box.1, s.units.to u m.box.1);
        line = line-to s v m.line;
        shared = w.cells.to m.shared;
        in_box = member-to s m.box.1 m.in_box;
        in_line = member-to s (omega (arith, m.line)) m.in_line;
      }

  opposite-to : {u v e : ℕ} → u < 18 → v < 18 → u ≢ v → Member u e → Member v e → Opposite (w.units.to u) (w.units.to v)
  opposite-to {u} {v} h k n p q =
      opposite (line-to s u h) (line-to s v k) (λ e. n (same-to s.units (omega arith) (omega arith) e)) (member-to s (omega arith) p) (member-to s (omega arith) q)

  -- a row and a column go to a row and a column
  lines-to : {r k : ℕ} → r < 9 → 9 ≤ k → k < 18 → Opposite (w.units.to r) (w.units.to k)
  lines-to {r} {k} h l n =
      let m = row-meets {r = r} {k = k} h l n in
      opposite-to (omega arith) n (λ e. omega arith) m.1 m.2

  both_to : {u v x y : ℕ} → Rows u v → Columns x y → (Rows (w.units.to u) (w.units.to v) × Columns (w.units.to x) (w.units.to y)) ⊎ (Columns (w.units.to u) (w.units.to v) × Rows (w.units.to x) (w.units.to y))
  both_to {u} {v} {x} {y} r k =
      go (lines-to r.0 k.0 k.1) (lines-to r.0 k.2 k.3) (lines-to r.1 k.0 k.1)
    where
      go : Opposite (w.units.to u) (w.units.to x) → Opposite (w.units.to u) (w.units.to y) → Opposite (w.units.to v) (w.units.to x)
          → (Rows (w.units.to u) (w.units.to v) × Columns (w.units.to x) (w.units.to y)) ⊎ (Columns (w.units.to u) (w.units.to v) × Rows (w.units.to x) (w.units.to y))
      go (inl a) (inl b) (inl c) = inl ((a.0, c.0), (a.1, a.2, b.1, b.2))
      go (inr a) (inr b) (inr c) = inr ((a.0, a.1, c.0, c.1), (a.2, b.2))
      go (inl a) (inr b) c = absurd (omega (arith, a.0, b.0))
      go (inr a) (inl b) c = absurd (omega (arith, a.0, b.0))
      go (inl a) (inl b) (inr c) = absurd (omega (arith, a.1, c.2))
      go (inr a) (inr b) (inl c) = absurd (omega (arith, a.2, c.1))

  pub crossing-to : {u v x y : ℕ} → Crossing u v x y → Crossing (w.units.to u) (w.units.to v) (w.units.to x) (w.units.to y)
  crossing-to {u} {v} {x} {y} c =
      record {
        lines = ⊎_elim (λ p. both_to p.0 p.1) (λ p. turn (both_to p.1 p.0)) c.lines;
        apart₁ = λ e. c.apart₁ (same-to s.units low.0 low.1 e);
        apart₂ = λ e. c.apart₂ (same-to s.units low.2 low.3 e);
      }
    where
      turn : {A B C D : Type 0} → (A × B) ⊎ (C × D) → (D × C) ⊎ (B × A)
      turn t = ⊎_elim (λ p. inr (p.1, p.0)) (λ p. inl (p.1, p.0)) t

      low : (u < 27) × (v < 27) × (x < 27) × (y < 27)
      low =
          ⊎_elim (λ p. (omega (arith, p.0.0), omega (arith, p.0.1), omega (arith, p.1.1), omega (arith, p.1.3)))
          (λ p. (omega (arith, p.0.1), omega (arith, p.0.3), omega (arith, p.1.0), omega (arith, p.1.1))) c.lines
