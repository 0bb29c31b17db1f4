-- The verifier's marks: until a number makes it no, they are exactly the digits met in each unit; so its yes or no is the definition's. Assumes nothing.
use mathlib.Core.Path.{◌≡◌, refl, sym, ap, ◌∙◌, subst}
use mathlib.Core.Logic.{◌⊎◌, ◌↔◌, ◌≢◌, inl, inr, ⊎_elim}
use mathlib.Core.Bool.{Bool, true, false, cond, not, false≢true}
use mathlib.Core.List.{List}
use Prim.Native.Nat.{ℕ, zero, suc, ◌+◌, ◌≤◌, ◌<◌}
use native.Mathlib.Decide.{ℕ_discrete, dec_lt}
use native.Mathlib.Omega.{arith}
use borrow.Author.Tests.{eq-eqb, ne_eqb}
use lib.Dec.{eqb}
use lib.IntN.{ℤ, pos}
use lib.ListN.{length, get_or, length-set, get_or-replicate}
use lib.Seq.{get_or-set_same, get_or-set_other}
use Rattle.candidates.specs.Masks.{has, union, single}
use Rattle.candidates.specs.Sets.{place}
use Rattle.candidates.proofs.Held.{Held, none-held, held-power, held-union}
use Rattle.candidates.proofs.Tests.{both, both_left, both_right, bool_iff, cond-true, cond-false, eqb-iff}
use Rattle.grid.specs.Cells.{cell, row, col, box}
use Rattle.grid.specs.Units.{unit_cell, in_unit, Member}
use Rattle.grid.specs.Fillings.{number_at, is_digit, verified}
use Rattle.grid.specs.Marks.{join_at, join_units, seen, fits, marks_after, fine, Met, OnePass}
use Rattle.grid.proofs.Units.{Kind, row-unit, col-unit, box-unit, kind, by-unit, in_row, in-col, in-box, in-member, member-in, at_place, cell_below, cells-rise}
use Rattle.grid.proofs.Cells.{row_below, col-below, box-below, row_of, col-of, row_in, col-in, box_in_lem}
use Rattle.grid.proofs.Fillings.{place_at, Complete, number_of, same_number_lem, test-place, verified-digit, verified-complete, complete-verified}

-- ---- a mask for each unit

-- m with the digits of x, where they join it
abbrev with : Bool → ℕ → ℕ → ℕ
with t x m = cond t (union m x) m

joined_at_lem : (v x : ℕ) (ms : List ℕ) (u : ℕ) → v < length ms → get_or (join_at v x ms) u 0 ≡ with (eqb v u) x (get_or ms u 0)
joined_at_lem v x ms u h = go (ℕ_discrete v u)
  where
    y : ℕ
    y = union (get_or ms v 0) x

    go : Dec (v ≡ u) → get_or (join_at v x ms) u 0 ≡ with (eqb v u) x (get_or ms u 0)
    go (yes e) =
        subst (λ (w : ℕ). get_or (join_at v x ms) w 0 ≡ with (eqb v w) x (get_or ms w 0)) e
        (get_or-set_same ms v y 0 h ∙ sym (cond-true (eqb v v) y (get_or ms v 0) (eq-eqb v v refl)))
    go (no n) = get_or-set_other ms v u y 0 (λ e. n (sym e)) ∙ sym (cond-false (eqb v u) (union (get_or ms u 0) x) (get_or ms u 0) (ne_eqb v u n))

-- of three units one at most is u
module _ (p q r t : Bool) (x m : ℕ) where
  third : p ≡ false → q ≡ false → r ≡ t → with p x (with q x (with r x m)) ≡ with t x m
  third a b e = rw (a, b, e)

  second : p ≡ false → q ≡ t → r ≡ false → with p x (with q x (with r x m)) ≡ with t x m
  second a b e = rw (a, b, e)

  first : p ≡ t → q ≡ false → r ≡ false → with p x (with q x (with r x m)) ≡ with t x m
  first a b e = rw (a, b, e)

one_of_three : (c x m u : ℕ) → c < 81 → Kind u → with (eqb (18 + box c) u) x (with (eqb (9 + col c) u) x (with (eqb (row c) u) x m)) ≡ with (in_unit u c) x m
one_of_three c x m u h (row-unit r k) =
    third (eqb (18 + box c) r) (eqb (9 + col c) r) (eqb (row c) r) (in_unit r c) x m (ne_eqb (18 + box c) r (λ e. omega arith)) (ne_eqb (9 + col c) r (λ e. omega arith))
    (sym (in_row r c k))
one_of_three c x m u h (col-unit k l) =
    let b = row_below c h in
    second (eqb (18 + box c) (9 + k)) (eqb (9 + col c) (9 + k)) (eqb (row c) (9 + k)) (in_unit (9 + k) c) x m (ne_eqb (18 + box c) (9 + k) (λ e. omega arith))
    (eqb-iff (9 + col c) (9 + k) (col c) k (λ e. omega arith) (λ e. omega arith) ∙ sym (in-col k c l)) (ne_eqb (row c) (9 + k) (λ e. omega arith))
one_of_three c x m u h (box-unit k l) =
    let b = row_below c h in
    let d = col-below c in
    first (eqb (18 + box c) (18 + k)) (eqb (9 + col c) (18 + k)) (eqb (row c) (18 + k)) (in_unit (18 + k) c) x m
    (eqb-iff (18 + box c) (18 + k) (box c) k (λ e. omega arith) (λ e. omega arith) ∙ sym (in-box k c l)) (ne_eqb (9 + col c) (18 + k) (λ e. omega arith))
    (ne_eqb (row c) (18 + k) (λ e. omega arith))

pub joined_length : (c x : ℕ) (ms : List ℕ) → length (join_units c x ms) ≡ length ms
unfolding join_units
joined_length c x ms = simp length-set

-- exactly the units that a cell lies in gain the digits
pub joined : (c x : ℕ) (ms : List ℕ) → c < 81 → length ms ≡ 27 → (u : ℕ) → u < 27 → get_or (join_units c x ms) u 0 ≡ cond (in_unit u c) (union (get_or ms u 0) x) (get_or ms u 0)
unfolding join_units
joined c x ms h n u k =
    let r = row_below c h in
    let l = col-below c in
    let b = box-below c h in
    let la = length-set ms (row c) (union (get_or ms (row c) 0) x) in
    let lb = length-set a (9 + col c) (union (get_or a (9 + col c) 0) x) in
    joined_at_lem (18 + box c) x (join_at (9 + col c) x a) u (omega arith)
    ∙ ap (with (eqb (18 + box c) u) x) (joined_at_lem (9 + col c) x a u (omega arith))
    ∙ ap (λ (m : ℕ). with (eqb (18 + box c) u) x (with (eqb (9 + col c) u) x m)) (joined_at_lem (row c) x ms u (omega arith))
    ∙ one_of_three c x (get_or ms u 0) u h (kind u k)
  where
    a : List ℕ
    a = join_at (row c) x ms

-- a cell's three units by its row r, its column k and its box's number b
module _ (r k b : ℕ) (h : k < 9) (e : b ≡ 18 + box (cell r k)) where
  units_of : {A : Type 0} (f : ℕ → ℕ → ℕ → A) → f r (9 + k) b ≡ f (row (cell r k)) (9 + col (cell r k)) (18 + box (cell r k))
  units_of f =
      ap (λ (u : ℕ). f r (9 + k) u) e ∙ ap (λ (u : ℕ). f r (9 + u) (18 + box (cell r k))) (sym (col-of r k h))
      ∙ ap (λ (u : ℕ). f u (9 + col (cell r k)) (18 + box (cell r k))) (sym (row_of r k h))

  pub joined-three : (x : ℕ) (ms : List ℕ) → join_at b x (join_at (9 + k) x (join_at r x ms)) ≡ join_units (cell r k) x ms
  unfolding join_units
  joined-three x ms = units_of (λ u v w. join_at w x (join_at v x (join_at u x ms)))

  pub seen-three : (ms : List ℕ) → union (union (get_or ms r 0) (get_or ms (9 + k) 0)) (get_or ms b 0) ≡ seen ms (cell r k)
  unfolding seen
  seen-three ms = units_of (λ u v w. union (union (get_or ms u 0) (get_or ms v 0)) (get_or ms w 0))

-- a cell's three units have what one of them has
pub seen-held : (ms : List ℕ) (c d : ℕ) → c < 81 → Held (seen ms c) d ↔ ((u : ℕ) × (u < 27) × (in_unit u c ≡ true) × Held (get_or ms u 0) d)
unfolding seen
seen-held ms c d h = (
  λ t. ⊎_elim
      (λ s. ⊎_elim (λ a. (row c, omega (arith, row_below c h), row_in c h, a)) (λ b. (9 + col c, omega (arith, col-below c), col-in c, b)) ((held-union (get_or ms (row c) 0) (get_or ms (9 + col c) 0) d).0 s))
      (λ b. (18 + box c, omega (arith, box-below c h), box_in_lem c h, b)) ((held-union lines (get_or ms (18 + box c) 0) d).0 t),
  λ w. by-unit (λ u. Held (get_or ms u 0) d → Held (seen ms c) d) c
      (λ a. (held-union lines (get_or ms (18 + box c) 0) d).1 (inl ((held-union (get_or ms (row c) 0) (get_or ms (9 + col c) 0) d).1 (inl a))))
      (λ a. (held-union lines (get_or ms (18 + box c) 0) d).1 (inl ((held-union (get_or ms (row c) 0) (get_or ms (9 + col c) 0) d).1 (inr a))))
      (λ a. (held-union lines (get_or ms (18 + box c) 0) d).1 (inr a)) w.0 (kind w.0 w.1) w.2 w.3,
)
  where
    lines : ℕ
    lines = union (get_or ms (row c) 0) (get_or ms (9 + col c) 0)

-- ---- the marks are the digits met

marks-length : (g : List ℤ) (k : ℕ) → length (marks_after g k) ≡ 27
unfolding marks_after
marks-length g zero = refl
marks-length g (suc k) = joined_length k (single (place (number_at g k))) (marks_after g k) ∙ marks-length g k

fine_before : (g : List ℤ) (k : ℕ) → fine g (suc k) ≡ true → fine g k ≡ true
unfolding fine
fine_before g k e = both_left (fine g k) _ e

fine-fits : (g : List ℤ) (k : ℕ) → fine g (suc k) ≡ true → fits (marks_after g k) k (number_at g k) ≡ true
unfolding fine
fine-fits g k e = both_right (fine g k) _ e

fits-digit : (ms : List ℕ) (c : ℕ) (z : ℤ) → fits ms c z ≡ true → place z < 9
fits-digit ms c z e = test-place z (both_left (is_digit z) _ e)

-- one more cell, whose number is a digit
module _ (g : List ℤ) (k u d : ℕ) (h : k < 81) (l : u < 27) (p : place (number_at g k) < 9) where
  met-on : Met g k u d → Met g (suc k) u d
  met-on w = record { at = w.at; before = omega (arith, w.before); lies = w.lies; holds = w.holds }

  met-here : in_unit u k ≡ true → d ≡ place (number_at g k) → Met g (suc k) u d
  met-here e q = record { at = k; before = omega arith; lies = in-member u k l h e; holds = number_of (number_at g k) d (sym q) (omega arith) }

  met-back : Met g (suc k) u d → Met g k u d ⊎ ((in_unit u k ≡ true) × (d ≡ place (number_at g k)))
  met-back w = go (ℕ_discrete w.at k)
    where
      go : Dec (w.at ≡ k) → Met g k u d ⊎ ((in_unit u k ≡ true) × (d ≡ place (number_at g k)))
      go (yes e) =
          let z : place (number_at g k) ≡ place (pos (suc d)) = ap place (ap (number_at g) (sym e) ∙ w.holds) in
          inr (ap (in_unit u) (sym e) ∙ member-in l w.lies, omega arith)
      go (no n) = inl (record { at = w.at; before = omega (arith, w.before); lies = w.lies; holds = w.holds })

  marks-on : Held (get_or (marks_after g k) u 0) d ↔ Met g k u d → Held (get_or (marks_after g (suc k)) u 0) d ↔ Met g (suc k) u d
  unfolding marks_after
  marks-on ih = subst (λ (y : ℕ). Held y d ↔ Met g (suc k) u d) (sym (joined k x (marks_after g k) h (marks-length g k) u l)) (go (in_unit u k) refl)
    where
      x : ℕ
      x = single (place (number_at g k))

      m : ℕ
      m = get_or (marks_after g k) u 0

      go : (t : Bool) → in_unit u k ≡ t → Held (cond t (union m x) m) d ↔ Met g (suc k) u d
      go true e = (
        λ t. ⊎_elim (λ a. met-on (ih.0 a)) (λ b. met-here e ((held-power (place (number_at g k)) d).0 b)) ((held-union m x d).0 t),
        λ w. (held-union m x d).1 (⊎_elim (λ v. inl (ih.1 v)) (λ v. inr ((held-power (place (number_at g k)) d).1 v.1)) (met-back w)),
      )
      go false e = (λ t. met-on (ih.0 t), λ w. ⊎_elim (λ v. ih.1 v) (λ v. absurd (false≢true (sym e ∙ v.0))) (met-back w))

marks-met : (g : List ℤ) (k : ℕ) → k ≤ 81 → fine g k ≡ true → (u d : ℕ) → u < 27 → Held (get_or (marks_after g k) u 0) d ↔ Met g k u d
unfolding marks_after
marks-met g zero h e u d l =
    (λ t. absurd (none-held d (subst (λ (m : ℕ). Held m d) (get_or-replicate 27 u 0 0 l) t)), λ w. absurd (omega (arith, w.before)))
marks-met g (suc k) h e u d l =
    marks-on g k u d (omega arith) l (fits-digit (marks_after g k) k (number_at g k) (fine-fits g k e)) (marks-met g k (omega arith) (fine_before g k e) u d l)

-- ---- the verifier's answer

pub fine-first : (g : List ℤ) (k n : ℕ) → k ≤ n → fine g n ≡ true → fine g k ≡ true
fine-first g k zero h e = subst (λ (j : ℕ). fine g j ≡ true) (omega arith) e
fine-first g k (suc n) h e = go (ℕ_discrete k (suc n)) (λ l. fine-first g k n l (fine_before g n e))
  where
    go : Dec (k ≡ suc n) → (k ≤ n → fine g k ≡ true) → fine g k ≡ true
    go (yes p) more = subst (λ (j : ℕ). fine g j ≡ true) (sym p) e
    go (no p) more = more (omega arith)

-- a number that fits is in no cell before it in the units
fits-apart : (g : List ℤ) (u a b : ℕ) → b < 81 → fine g (suc b) ≡ true → a < b → u < 27 → Member u a → Member u b → number_at g a ≢ number_at g b
fits-apart g u a b h e k l m n q =
    false≢true (sym (ap not ((seen-held ms b d h).1 (u, l, member-in l n, (marks-met g b (omega arith) (fine_before g b e) u d l).1 met))) ∙ both_right (is_digit (number_at g b)) (not (has (seen ms b) d)) (fine-fits g b e))
  where
    ms : List ℕ
    ms = marks_after g b

    d : ℕ
    d = place (number_at g b)

    met : Met g b u d
    met = record { at = a; before = k; lies = m; holds = q ∙ number_of (number_at g b) d refl (fits-digit ms b (number_at g b) (fine-fits g b e)) }

fine-complete : (g : List ℤ) → fine g 81 ≡ true → Complete g
fine-complete g e = record {
  at = λ u h. record {
    into = λ i k. digit (unit_cell u i) (cell_below u i h k);
    apart = λ i j k l p. apart u i j h k l p (dec_lt i j) (dec_lt j i);
  };
}
  where
    first : (c : ℕ) → c < 81 → fine g (suc c) ≡ true
    first c h = fine-first g (suc c) 81 h e

    digit : (c : ℕ) → c < 81 → place (number_at g c) < 9
    digit c h = fits-digit (marks_after g c) c (number_at g c) (fine-fits g c (first c h))

    rising : (u i j : ℕ) → u < 27 → i < 9 → j < 9 → place_at g u i ≡ place_at g u j → i < j → ⊥
    rising u i j h k l p r =
        fits-apart g u (unit_cell u i) (unit_cell u j) (cell_below u j h l) (first (unit_cell u j) (cell_below u j h l)) (cells-rise u i j h r l) h (at_place u i k) (at_place u j l)
        (same_number_lem (number_at g (unit_cell u i)) (number_at g (unit_cell u j)) (digit (unit_cell u i) (cell_below u i h k)) p)

    apart : (u i j : ℕ) → u < 27 → i < 9 → j < 9 → place_at g u i ≡ place_at g u j → Dec (i < j) → Dec (j < i) → i ≡ j
    apart u i j h k l p (yes r) t = absurd (rising u i j h k l p r)
    apart u i j h k l p (no r) (yes t) = absurd (rising u j i h l k (sym p) t)
    apart u i j h k l p (no r) (no t) = omega arith

verified-fits : (g : List ℤ) → verified g ≡ true → (k : ℕ) → k < 81 → fine g k ≡ true → fits (marks_after g k) k (number_at g k) ≡ true
verified-fits g e k h f = both (verified-digit g e k h) (go (has (seen ms k) d) refl)
  where
    ms : List ℕ
    ms = marks_after g k

    d : ℕ
    d = place (number_at g k)

    -- where the digit was met there is another place of it in the unit
    twice : (u : ℕ) → u < 27 → in_unit u k ≡ true → Met g k u d → ⊥
    twice u l i w =
        let m = in-member u k l h i in
        let b = w.before in
        let q : place (number_at g w.at) ≡ place (pos (suc d)) = ap place w.holds in
        let p = test-place (number_at g k) (verified-digit g e k h) in
        let same = ((verified-complete g e).at u l).apart w.lies.place m.place w.lies.within m.within (ap (λ (c : ℕ). place (number_at g c)) w.lies.is ∙ omega arith ∙ ap (λ (c : ℕ). place (number_at g c)) (sym m.is)) in
        let at : w.at ≡ k = sym w.lies.is ∙ ap (unit_cell u) same ∙ m.is in
        omega arith

    go : (t : Bool) → has (seen ms k) d ≡ t → not t ≡ true
    go true t = let s = (seen-held ms k d h).0 t in absurd (twice s.0 s.1 s.2 ((marks-met g k (omega arith) f s.0 d s.1).0 s.3))
    go false t = refl

verified-fine : (g : List ℤ) → verified g ≡ true → (k : ℕ) → k ≤ 81 → fine g k ≡ true
unfolding fine
verified-fine g e zero h = refl
verified-fine g e (suc k) h = let f = verified-fine g e k (omega arith) in both f (verified-fits g e k (omega arith) f)

pub one-pass : OnePass
one-pass = record {
  marks = marks-met;
  answer = λ g. bool_iff (fine g 81) (verified g) (λ e. complete-verified g (fine-complete g e)) (λ e. verified-fine g e 81 (omega arith));
}
