-- Who sees whom: two different cells of one unit, and no others. Assumes nothing.
use mathlib.Core.Path.{◌≡◌, refl, sym, ap, ◌∙◌}
use mathlib.Core.Logic.{◌≢◌, inl, inr}
use mathlib.Core.Bool.{Bool, true, false, not, ◌&&◌, ◌||◌, false≢true}
use mathlib.Core.List.{Memᴰ, map}
use Prim.Native.Nat.{ℕ, ◌+◌, ◌*◌, ◌/◌, ◌≤◌, ◌<◌}
use native.Mathlib.Omega.{arith}
use borrow.Author.Tests.{eqb-true, eq-eqb, ne_eqb}
use lib.Dec.{eqb, eqb→eq, eqb_refl}
use lib.ListN.{length, get_or, get_or-eq_default}
use Rattle.grid.specs.Cells.{cell, row, col, box, aligned, sees, cells, peers}
use Rattle.grid.specs.Lists.{all}
use Rattle.grid.specs.Units.{in_unit, ShareUnit}
use Rattle.candidates.proofs.Tests.{below, T_true, both_right, either, eqb-sym}
use Rattle.grid.proofs.Lists.{mem-select, select-mem, mem-range, range-mem, at-up_to, all_same, map_same}
use Rattle.grid.proofs.Units.{in_row, in-col, in-box, Kind, row-unit, col-unit, box-unit, kind, in-member, member-in}

-- ---- a cell and its row, column and box

pub row_below : (c : ℕ) → c < 81 → row c < 9
row_below c h = omega arith

pub col-below : (c : ℕ) → col c < 9
col-below c = omega arith

pub box-below : (c : ℕ) → c < 81 → box c < 9
box-below c h = omega arith

pub cell-of : (c : ℕ) → cell (row c) (col c) ≡ c
cell-of c = omega arith

pub row_of : (r k : ℕ) → k < 9 → row (cell r k) ≡ r
row_of r k h = omega arith

pub col-of : (r k : ℕ) → k < 9 → col (cell r k) ≡ k
col-of r k h = omega arith

pub box_of_lem : (r k : ℕ) → k < 9 → box (cell r k) ≡ 3 * (r / 3) + k / 3
box_of_lem r k h = ap (λ (q : ℕ). 3 * (q / 3) + col (cell r k) / 3) (row_of r k h) ∙ ap (λ (q : ℕ). 3 * (r / 3) + q / 3) (col-of r k h)

pub cell-lt : (r k : ℕ) → r < 9 → k < 9 → cell r k < 81
cell-lt r k h l = omega arith

-- a cell lies in its row, its column and its box
pub row_in : (c : ℕ) → c < 81 → in_unit (row c) c ≡ true
row_in c h = in_row (row c) c (row_below c h) ∙ eq-eqb (row c) (row c) refl

pub col-in : (c : ℕ) → in_unit (9 + col c) c ≡ true
col-in c = in-col (col c) c (col-below c) ∙ eq-eqb (col c) (col c) refl

pub box_in_lem : (c : ℕ) → c < 81 → in_unit (18 + box c) c ≡ true
box_in_lem c h = in-box (box c) c (box-below c h) ∙ eq-eqb (box c) (box c) refl

-- ---- all cells

module _ {A : Type 0} where
  pub at_cells : (d : A) (f : ℕ → A) (c : ℕ) → c < 81 → get_or (map f cells) c d ≡ f c
  unfolding cells
  at_cells d f c h = at-up_to f d 81 c h

  pub cells-size : (f : ℕ → A) → length (map f cells) ≡ 81
  unfolding cells
  cells-size f = refl

  pub past-cells : (d : A) (f : ℕ → A) (c : ℕ) → 81 ≤ c → get_or (map f cells) c d ≡ d
  past-cells d f c h = get_or-eq_default (map f cells) d (omega (arith, cells-size f))

  pub map-cells : (f g : ℕ → A) → ((c : ℕ) → c < 81 → f c ≡ g c) → map f cells ≡ map g cells
  unfolding cells
  map-cells f g h = map_same f g cells (λ c k. h c (mem-range 81 0 c k).1)

pub all-cells : (f g : ℕ → Bool) → ((c : ℕ) → c < 81 → f c ≡ g c) → all f cells ≡ all g cells
unfolding cells
all-cells f g h = all_same f g cells (λ c k. h c (mem-range 81 0 c k).1)

-- ---- seeing

pub sees-irrefl : (a : ℕ) → sees a a ≡ false
sees-irrefl a = ap (λ (t : Bool). not t && aligned a a) (T_true (eqb a a) (eqb_refl a))

pub sees-sym : (a b : ℕ) → sees a b ≡ sees b a
sees-sym a b = simp (eqb-sym a b, eqb-sym (row a) (row b), eqb-sym (col a) (col b), eqb-sym (box a) (box b))

pub sees-other : (a b : ℕ) → a ≢ b → sees a b ≡ aligned a b
sees-other a b n = ap (λ (t : Bool). not t && aligned a b) (ne_eqb a b n)

pub same_row_lem : (a b : ℕ) → row a ≡ row b → aligned a b ≡ true
same_row_lem a b e = ap (λ (t : Bool). t || eqb (col a) (col b) || eqb (box a) (box b)) (eq-eqb (row a) (row b) e)

pub same-col : (a b : ℕ) → col a ≡ col b → aligned a b ≡ true
same-col a b e =
    (either (eqb (row a) (row b) || eqb (col a) (col b)) (eqb (box a) (box b))).1
    (inl ((either (eqb (row a) (row b)) (eqb (col a) (col b))).1 (inr (eq-eqb (col a) (col b) e))))

pub same-box : (a b : ℕ) → box a ≡ box b → aligned a b ≡ true
same-box a b e = (either (eqb (row a) (row b) || eqb (col a) (col b)) (eqb (box a) (box b))).1 (inr (eq-eqb (box a) (box b) e))

pub not_aligned : (a b : ℕ) → row a ≢ row b → col a ≢ col b → aligned a b ≡ eqb (box a) (box b)
not_aligned a b n m =
    ap (λ (t : Bool). t || eqb (col a) (col b) || eqb (box a) (box b)) (ne_eqb (row a) (row b) n)
    ∙ ap (λ (t : Bool). t || eqb (box a) (box b)) (ne_eqb (col a) (col b) m)

in_both : (u a b : ℕ) → Kind u → in_unit u a ≡ true → in_unit u b ≡ true → aligned a b ≡ true
in_both u a b (row-unit r h) e f =
    same_row_lem a b (eqb-true (row a) r (sym (in_row r a h) ∙ e) ∙ sym (eqb-true (row b) r (sym (in_row r b h) ∙ f)))
in_both u a b (col-unit k h) e f =
    same-col a b (eqb-true (col a) k (sym (in-col k a h) ∙ e) ∙ sym (eqb-true (col b) k (sym (in-col k b h) ∙ f)))
in_both u a b (box-unit k h) e f =
    same-box a b (eqb-true (box a) k (sym (in-box k a h) ∙ e) ∙ sym (eqb-true (box b) k (sym (in-box k b h) ∙ f)))

pub share-sees : (u a b : ℕ) → u < 27 → a ≢ b → in_unit u a ≡ true → in_unit u b ≡ true → sees a b ≡ true
share-sees u a b h n e f = sees-other a b n ∙ in_both u a b (kind u h) e f

pub shared_sees : {a b : ℕ} → ShareUnit a b → sees a b ≡ true
shared_sees {a} {b} s = share-sees s.shared a b s.within s.different (member-in s.within s.first) (member-in s.within s.second)

pub sees-differ : (a b : ℕ) → sees a b ≡ true → a ≢ b
sees-differ a b e n = false≢true (sym (sees-irrefl a) ∙ ap (sees a) n ∙ e)

pub sees-shared : (a b : ℕ) → a < 81 → b < 81 → sees a b ≡ true → ShareUnit a b
sees-shared a b h k e =
    go (eqb (row a) (row b)) (eqb (col a) (col b)) (eqb (box a) (box b)) refl refl refl (both_right (not (eqb a b)) (aligned a b) e)
  where
    share : (u : ℕ) → u < 27 → in_unit u a ≡ true → in_unit u b ≡ true → ShareUnit a b
    share u l p q = record {
      different = sees-differ a b e;
      shared = u;
      within = l;
      first = in-member u a l h p;
      second = in-member u b l k q;
    }

    go : (p q r : Bool) → eqb (row a) (row b) ≡ p → eqb (col a) (col b) ≡ q → eqb (box a) (box b) ≡ r → (p || q || r) ≡ true → ShareUnit a b
    go true q r x y z t =
        share (row a) (omega (arith, row_below a h)) (row_in a h)
        (in_row (row a) b (row_below a h) ∙ eqb-sym (row b) (row a) ∙ x)
    go false true r x y z t =
        share (9 + col a) (omega (arith, col-below a)) (col-in a)
        (in-col (col a) b (col-below a) ∙ eqb-sym (col b) (col a) ∙ y)
    go false false true x y z t =
        share (18 + box a) (omega (arith, box-below a h)) (box_in_lem a h)
        (in-box (box a) b (box-below a h) ∙ eqb-sym (box b) (box a) ∙ z)
    go false false false x y z t = absurd (false≢true t)

-- ---- peers

pub twenty : (c : ℕ) → c < 81 → length (peers c) ≡ 20
unfolding peers cells
twenty c h = eqb→eq (length (peers c)) 20 (below 81 (λ c. eqb (length (peers c)) 20) tt c h)

pub peer-sees : (a b : ℕ) → Memᴰ b (peers a) → (b < 81) × (sees a b ≡ true)
unfolding peers cells
peer-sees a b m =
    let p = mem-select (sees a) cells b m in
    ((mem-range 81 0 b p.0).1, p.1)

pub sees-peer : (a b : ℕ) → b < 81 → sees a b ≡ true → Memᴰ b (peers a)
unfolding peers cells
sees-peer a b h e = select-mem (sees a) cells b (range-mem 81 0 b (omega arith) (omega arith)) e
