-- The digits that a cell's three units are given are those of its peers, for an open cell; so the code's fresh masks are the fresh masks. Assumes nothing.
use mathlib.Core.Path.{◌≡◌, refl, sym, ap, ◌∙◌, subst}
use mathlib.Core.Logic.{inr, ⊎_elim}
use mathlib.Core.Bool.{Bool, true, false, cond}
use mathlib.Core.List.Memᴰ
use mathlib.Core.List.{List, [], ◌∷◌, map, Memᴰ}
use Prim.Native.Nat.{ℕ, ◌-◌, ◌<◌}
use native.Mathlib.Decide.{ℕ_discrete}
use lib.ListN.{length, get_or, set, replicate, get_or-replicate}
use Rattle.candidates.specs.Masks.{Sub, minus, union, place_mask}
use Rattle.candidates.proofs.Held.{Held, none-held, held-sub, sub_held}
use Rattle.candidates.proofs.Order.{sub_trans, sub-antisym, sub-none, union_left, union_right, union-sub}
use Rattle.candidates.proofs.Tests.{by-test, cond-true}
use Rattle.grid.specs.Cells.{cell, row, col, peers, cells}
use Rattle.grid.specs.Units.{in_unit}
use Rattle.grid.specs.Marks.{join_units, seen}
use Rattle.grid.proofs.Cells.{map-cells, row_below, col-below, cell-of, cell-lt, peer-sees, sees-peer, sees-shared, share-sees}
use Rattle.grid.proofs.Marks.{joined, joined_length, seen-held}
use Rattle.grid.proofs.Unions.{held-gathered}
use Rattle.grid.proofs.Units.{member-in}
use Rattle.steps.specs.Boards.{given, is_open, given_mask, taken, fresh_at, fresh}
use Rattle.steps.specs.Loops.{each, up_to}
use Rattle.steps.proofs.Loops.{each_keeps, in-up_to, up_to-in}
use Rattle.board.specs.code.Fresh.{join_given, join_row, unit_sets, fresh_mask, fresh_row}

-- ---- a loop that makes a thing at one of its members, and keeps it

module _ {A S : Type 0} (f : A → S → S) (Q P : S → Type 0) (still : (x : A) (s : S) → Q s → Q (f x s)) where
  each_makes : (xs : List A) (x : A) → Memᴰ x xs → ((y : A) → Memᴰ y xs → (s : S) → P s → P (f y s)) → ((s : S) → Q s → P (f x s)) → (s : S) → Q s → P (each f xs s)
  unfolding each
  each_makes [] x h keeps make s q = absurd (Memᴰ.not-nil h)
  each_makes (y ∷ ys) x h keeps make s q =
      ⊎_elim (λ (e : x ≡ y). each_keeps f P ys (λ z m. keeps z (Memᴰ.tail m)) (f y s) (subst (λ (z : A). P (f z s)) e (make s q)))
      (λ r. each_makes ys x r (λ z m. keeps z (Memᴰ.tail m)) make (f y s) (still y s q)) (Memᴰ.cases_cons h)

-- ---- the sets of the units hold what their cells are given, and no more

module _ (g : List ℕ) where
  abbrev Sets : List ℕ → Type 0
  Sets s = length s ≡ 27

  given-length : (r k : ℕ) (s : List ℕ) → Sets s → Sets (join_given g r k s)
  unfolding join_given
  given-length r k s n =
      by-test (λ (l : List ℕ). length l ≡ 27) (is_open g (cell r k)) s (join_units (cell r k) (given_mask g (cell r k)) s) (λ o. n)
      (λ o. joined_length (cell r k) (given_mask g (cell r k)) s ∙ n)

  row-length : (r : ℕ) (s : List ℕ) → Sets s → Sets (join_row g r s)
  unfolding join_row
  row-length r = each_keeps (join_given g r) (λ s. length s ≡ 27) (up_to 9) (λ k m. given-length r k)

  -- the set of a unit after a cell
  module _ (u r k : ℕ) (h : u < 27) (i : r < 9) (j : k < 9) (s : List ℕ) (n : Sets s) where
    given_by : (P : ℕ → Type 0) → P (get_or s u 0) → (in_unit u (cell r k) ≡ true → P (union (get_or s u 0) (given_mask g (cell r k)))) → P (get_or (join_given g r k s) u 0)
    unfolding join_given
    given_by P p q =
        by-test (λ (l : List ℕ). P (get_or l u 0)) (is_open g (cell r k)) s (join_units (cell r k) (given_mask g (cell r k)) s) (λ o. p)
        (λ o. subst P (sym (joined (cell r k) (given_mask g (cell r k)) s (cell-lt r k i j) n u h)) (by-test P (in_unit u (cell r k)) (union (get_or s u 0) (given_mask g (cell r k))) (get_or s u 0) q (λ e. p)))

    given-has : in_unit u (cell r k) ≡ true → Sub (given_mask g (cell r k)) (get_or (join_given g r k s) u 0)
    unfolding join_given
    given-has e =
        by-test (λ (m : List ℕ). Sub (given_mask g (cell r k)) (get_or m u 0)) (is_open g (cell r k)) s (join_units (cell r k) (given_mask g (cell r k)) s)
        (λ o. subst (λ (x : ℕ). Sub x (get_or s u 0)) (sym (cond-true (is_open g (cell r k)) 0 (place_mask (given g (cell r k) - 1)) o)) (sub-none (get_or s u 0)))
        (λ o. subst (λ (y : ℕ). Sub (given_mask g (cell r k)) y) (sym (joined (cell r k) (given_mask g (cell r k)) s (cell-lt r k i j) n u h ∙ cond-true (in_unit u (cell r k)) _ _ e)) (union_right (get_or s u 0) (given_mask g (cell r k))))

  -- what one cell keeps of the set of a unit, all cells keep
  module _ (u : ℕ) (h : u < 27) (P : ℕ → Type 0) (more : (c : ℕ) → c < 81 → in_unit u c ≡ true → (m : ℕ) → P m → P (union m (given_mask g c))) where
    abbrev Keeps : List ℕ → Type 0
    Keeps s = Sets s × P (get_or s u 0)

    cell-keeps : (r k : ℕ) → r < 9 → k < 9 → (s : List ℕ) → Keeps s → Keeps (join_given g r k s)
    cell-keeps r k i j s p = (given-length r k s p.0, given_by u r k h i j s p.0 P p.1 (λ e. more (cell r k) (cell-lt r k i j) e (get_or s u 0) p.1))

    row_keeps : (r : ℕ) → r < 9 → (s : List ℕ) → Keeps s → Keeps (join_row g r s)
    unfolding join_row
    row_keeps r i = each_keeps (join_given g r) Keeps (up_to 9) (λ k m. cell-keeps r k i (in-up_to 9 k m))

  sets-have : (u c : ℕ) → u < 27 → c < 81 → in_unit u c ≡ true → Sub (given_mask g c) (get_or (unit_sets g) u 0)
  unfolding unit_sets join_row
  sets-have u c h l e =
      subst (λ (d : ℕ). Sub (given_mask g d) (get_or (unit_sets g) u 0)) (cell-of c)
      (each_makes (join_row g) Sets Has row-length (up_to 9) r (up_to-in 9 r (row_below c l)) (λ q m. row_keeps u h (Sub x) grows q (in-up_to 9 q m))
      (each_makes (join_given g r) Sets Has (given-length r) (up_to 9) k (up_to-in 9 k (col-below c)) (λ q m. cell-keeps u h (Sub x) grows r q (row_below c l) (in-up_to 9 q m))
      (λ s n. (given-length r k s n, given-has u r k h (row_below c l) (col-below c) s n (ap (in_unit u) (cell-of c) ∙ e)))) (replicate 27 0) refl).1
    where
      r : ℕ
      r = row c

      k : ℕ
      k = col c

      x : ℕ
      x = given_mask g (cell r k)

      Has : List ℕ → Type 0
      Has s = (length s ≡ 27) × Sub x (get_or s u 0)

      grows : (c : ℕ) → c < 81 → in_unit u c ≡ true → (m : ℕ) → Sub x m → Sub x (union m (given_mask g c))
      grows c i e m p = sub_trans p (union_left m (given_mask g c))

  sets-only : (u z : ℕ) → u < 27 → ((c : ℕ) → c < 81 → in_unit u c ≡ true → Sub (given_mask g c) z) → Sub (get_or (unit_sets g) u 0) z
  unfolding unit_sets
  sets-only u z h f =
      (each_keeps (join_row g) (λ s. (length s ≡ 27) × Sub (get_or s u 0) z) (up_to 9)
      (λ r i. row_keeps u h (λ y. Sub y z) (λ c l e m p. union-sub p (f c l e)) r (in-up_to 9 r i))
      (replicate 27 0) (refl, subst (λ (x : ℕ). Sub x z) (sym (get_or-replicate 27 u 0 0 h)) (sub-none z))).1

-- ---- those of the three units of a cell are those of its peers

module _ (g : List ℕ) (c : ℕ) (h : c < 81) where
  abbrev three : ℕ
  three = seen (unit_sets g) c

  peers-three : Sub (taken g c) three
  unfolding taken
  peers-three =
      sub_held (taken g c) three
      (λ d t. ⊎_elim (λ z. absurd (none-held d z)) (λ w. one d w.0 w.1 w.2) ((held-gathered (given_mask g) (peers c) 0 d).0 t))
    where
      one : (d e : ℕ) → Memᴰ e (peers c) → Held (given_mask g e) d → Held (seen (unit_sets g) c) d
      one d e m t =
          let p = peer-sees c e m in
          let s = sees-shared c e h p.0 p.1 in
          (seen-held (unit_sets g) c d h).1 (s.shared, s.within, member-in s.within s.first, held-sub d (sets-have g s.shared e s.within p.0 (member-in s.within s.second)) t)

  -- an open cell adds none of its own
  three-peers : is_open g c ≡ true → Sub three (taken g c)
  unfolding taken
  three-peers o = sub_held three (taken g c) (λ d t. let w = (seen-held (unit_sets g) c d h).0 t in held-sub d (unit w.0 w.1 w.2) w.3)
    where
      go : (u e : ℕ) → u < 27 → e < 81 → in_unit u c ≡ true → in_unit u e ≡ true → Dec (c ≡ e) → Sub (given_mask g e) (taken g c)
      go u e i j p q (yes w) =
          subst (λ (x : ℕ). Sub x (taken g c)) (sym (cond-true (is_open g c) 0 (place_mask (given g c - 1)) o) ∙ ap (given_mask g) w) (sub-none (taken g c))
      go u e i j p q (no w) =
          sub_held (given_mask g e) (taken g c) (λ d t. (held-gathered (given_mask g) (peers c) 0 d).1 (inr (e, sees-peer c e j (share-sees u c e i w p q), t)))

      unit : (u : ℕ) → u < 27 → in_unit u c ≡ true → Sub (get_or (unit_sets g) u 0) (taken g c)
      unit u i p = sets-only g u (taken g c) i (λ e j q. go u e i j p q (ℕ_discrete c e))

  -- the code's fresh mask is the fresh mask
  fresh-mask : fresh_mask (given g c) three ≡ fresh_at g c
  fresh-mask = go (is_open g c) refl
    where
      go : (t : Bool) → is_open g c ≡ t → cond (is_open g c) (minus 511 three) (given_mask g c) ≡ cond (is_open g c) (minus 511 (taken g c)) (given_mask g c)
      go true o = ap (λ (x : ℕ). cond (is_open g c) (minus 511 x) (given_mask g c)) (sub-antisym (three-peers o) peers-three)
      go false o = rw o

-- ---- row by row

rows : (f : ℕ → ℕ → ℕ) → each (λ r. each (λ k m. set m (cell r k) (f r k)) (up_to 9)) (up_to 9) (replicate 81 0) ≡ map (λ c. f (row c) (col c)) cells
unfolding each cells
rows f = refl

pub fresh-rows : (g : List ℕ) → each (fresh_row g (unit_sets g)) (up_to 9) (replicate 81 0) ≡ fresh g
unfolding fresh_row fresh
fresh-rows g =
    rows (λ r k. fresh_mask (given g (cell r k)) (seen (unit_sets g) (cell r k)))
    ∙ map-cells _ (fresh_at g) (λ c h. ap (λ (d : ℕ). fresh_mask (given g d) (seen (unit_sets g) d)) (cell-of c) ∙ fresh-mask g c h)
