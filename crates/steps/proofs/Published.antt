-- The ported eliminations are the published ones: each test is the published pattern, and each removal loses just what the pattern names. Assumes nothing.
use mathlib.Core.Path.{◌≡◌, refl, sym, ap, ◌∙◌, subst}
use mathlib.Core.Logic.{◌≢◌, ◌⊎◌, ◌↔◌, inl, inr, ⊎_elim}
use mathlib.Core.Bool.{Bool, true, false, cond, not, ◌&&◌, ◌||◌, true≢false}
use mathlib.Core.List.{List, ◌++◌}
use Prim.Native.Nat.{ℕ, ◌+◌, ◌-◌, ◌≤◌, ◌<◌}
use native.Mathlib.Omega.{arith}
use borrow.Author.Tests.{eqb-true, eq-eqb, leb-true, le-leb, lt-ltb, le-ltb}
use lib.Dec.{eqb, leb, ltb}
use Rattle.candidates.specs.Masks.{count, lowest, tail, single}
use Rattle.candidates.proofs.Tests.{cond-true, cond-false, both, both_left, both_right, or-implied}
use Rattle.grid.specs.Units.{unit, unit_cell, in_unit, Member}
use Rattle.grid.proofs.Units.{place_in, cell_below, cell-place, at_place, cells-differ, member_below, member-in, in-member, member-mem, mem-member, in_row, in-col}
use Rattle.steps.specs.Boards.{at, is_open}
use Rattle.steps.specs.Loops.{all}
use Rattle.steps.specs.Ported.{holds, spots, is_naked_pair, naked_pair_loss, naked_pair_at, is_box_line, box_line_at, is_x_wing, first_across, second_across, x_wing_at}
use Rattle.steps.specs.Published.{Holder, Without, NakedPair, NakedPairLoss, Pointing, LockedLoss, Rows, Columns, XWing, XWingLoss}
use Rattle.steps.specs.Steps.{lose_all}
use Rattle.candidates.proofs.FewDigits.{Two, two-ext, two-count, count-two, two-same, More, more-count, count-more}
use Rattle.candidates.proofs.Held.{Held}
use Rattle.steps.proofs.Loops.{all-member, member-all}
use Rattle.steps.proofs.Effects.{pair-lost, locked-lost, cross-lost}
use Rattle.steps.proofs.Losses.{lost-when}
use Rattle.steps.proofs.Spots.{holder-holds, holds-holder, spots-small, spot-below, spot-holder, holder-spot, member-spot}

-- ---- naked pairs

four : (a b c d : Bool) → (a && b && c && d) ≡ true → (a ≡ true) × (b ≡ true) × (c ≡ true) × (d ≡ true)
four true true true d t = (refl, refl, refl, t)
four true true false d t = absurd (true≢false (sym t))
four true false c d t = absurd (true≢false (sym t))
four false b c d t = absurd (true≢false (sym t))

module _ (g m : List ℕ) where
  module _ (small : (c : ℕ) → at m c < 512) {u c e : ℕ} (p : Member u c) (q : Member u e) (n : c ≢ e) where
    two-pair : is_naked_pair g m c e ≡ true → NakedPair g m u c e (lowest (at m c)) (lowest (tail (at m c)))
    two-pair t =
        let f = four (is_open g c) (is_open g e) (eqb (at m c) (at m e)) (eqb (count (at m c)) 2) t in
        let w = count-two (at m c) (omega (arith, small c)) (eqb-true (count (at m c)) 2 f.3) in
        record {
          apart = n;
          first = p;
          second = q;
          free₁ = f.0;
          free₂ = f.1;
          digits = w.apart;
          held₁ = w.held;
          held₂ = subst (λ (x : ℕ). (d : ℕ) → Held x d ↔ ((d ≡ lowest (at m c)) ⊎ (d ≡ lowest (tail (at m c))))) (eqb-true (at m c) (at m e) f.2) w.held;
        }

  pair-two : {u c e a b : ℕ} → NakedPair g m u c e a b → is_naked_pair g m c e ≡ true
  pair-two {u} {c} {e} {a} {b} s =
      both (both (both s.free₁ s.free₂) (eq-eqb (at m c) (at m e) (two-ext two (record { apart = s.digits; held = s.held₂ }))))
      (eq-eqb (count (at m c)) 2 (two-count two))
    where
      two : Two (at m c) a b
      two = record { apart = s.digits; held = s.held₁ }

  pub naked-pair : ((c : ℕ) → at m c < 512) → {u c e : ℕ} → Member u c → Member u e → c ≢ e → (is_naked_pair g m c e ≡ true) ↔ ((a : ℕ) × (b : ℕ) × NakedPair g m u c e a b)
  naked-pair small {u} {c} {e} p q n = (λ t. (lowest (at m c), lowest (tail (at m c)), two-pair small p q n t), λ w. pair-two w.2)

  pub naked-pair-loses : {u c e a b : ℕ} → u < 27 → NakedPair g m u c e a b → Without m (NakedPairLoss g u c e a b) (naked_pair_at g u c e m)
  unfolding naked_pair_at
  naked-pair-loses {u} {c} {e} {a} {b} h s =
      lost-when (is_open g) (naked_pair_loss m c e) (is_naked_pair g m c e) (unit u) m (NakedPairLoss g u c e a b) (pair-two s) (pair-lost g c e (at m c) h s.held₁)

  pub naked-pair-none : (u c e : ℕ) → is_naked_pair g m c e ≡ false → naked_pair_at g u c e m ≡ m
  unfolding naked_pair_at
  naked-pair-none u c e t = cond-false (is_naked_pair g m c e) (lose_all (is_open g) (unit u) (naked_pair_loss m c e) m) m t

-- ---- box-line

module _ (g m : List ℕ) {u v : ℕ} (h : u < 27) (k : v < 27) (d : ℕ) where
  abbrev passes : ℕ → Bool
  passes e = not (holds g m d e) || in_unit v e

  line-pointing : is_box_line g m u v d ≡ true → Pointing g m u v d
  line-pointing t =
      record {
        one = unit_cell u i;
        two = unit_cell u j;
        apart = cells-differ u i j h (spot-below g m u d i w.held₁) (spot-below g m u d j w.held₂) w.apart;
        member₁ = at_place u i (spot-below g m u d i w.held₁);
        member₂ = at_place u j (spot-below g m u d j w.held₂);
        holder₁ = spot-holder g m u d i w.held₁;
        holder₂ = spot-holder g m u d j w.held₂;
        inside = λ e p q. in-member v e k (member_below h p) (or-implied (holds g m d e) (in_unit v e) (all-member passes (unit u) (both_right (leb 2 (count s)) (all passes (unit u)) t) e (member-mem h p)) (holder-holds g m q));
      }
    where
      s : ℕ
      s = spots g m u d

      i : ℕ
      i = lowest s

      j : ℕ
      j = lowest (tail s)

      w : More s i j
      w = count-more s (spots-small g m u d) (leb-true 2 (count s) (both_left (leb 2 (count s)) (all passes (unit u)) t))

  pointing-line : Pointing g m u v d → is_box_line g m u v d ≡ true
  pointing-line s = both (le-leb 2 (count (spots g m u d)) (more-count w)) (member-all passes (unit u) (λ e l. pass e (mem-member h l) (holds g m d e) refl))
    where
      w : More (spots g m u d) s.member₁.place s.member₂.place
      w = record {
        apart = λ q. s.apart (sym s.member₁.is ∙ ap (unit_cell u) q ∙ s.member₂.is);
        held₁ = member-spot g m u d s.member₁ s.holder₁;
        held₂ = member-spot g m u d s.member₂ s.holder₂;
      }

      pass : (e : ℕ) → Member u e → (t : Bool) → holds g m d e ≡ t → passes e ≡ true
      pass e p true t = rw t (member-in k (s.inside e p (holds-holder g m d e t)))
      pass e p false t = rw t

  pub pointing : (is_box_line g m u v d ≡ true) ↔ Pointing g m u v d
  pointing = (line-pointing, pointing-line)

  pub pointing-loses : Pointing g m u v d → Without m (LockedLoss g u v d) (box_line_at g u v d m)
  unfolding box_line_at
  pointing-loses s =
      lost-when (is_open g) (λ e. cond (in_unit u e) 0 (single d)) (is_box_line g m u v d) (unit v) m (LockedLoss g u v d) (pointing-line s) (locked-lost g h k d)

  pub pointing-none : is_box_line g m u v d ≡ false → box_line_at g u v d m ≡ m
  unfolding box_line_at
  pointing-none t = cond-false (is_box_line g m u v d) (lose_all (is_open g) (unit v) (λ e. cond (in_unit u e) 0 (single d)) m) m t

-- ---- X-wing

-- u is a row or a column, and the lines that cross it are the nine units from k on
abbrev pub Line : ℕ → ℕ → Type 0
Line k u = ((u < 9) × (k ≡ 9)) ⊎ ((9 ≤ u) × (u < 18) × (k ≡ 0))

line-unit : {k u : ℕ} → Line k u → u < 27
line-unit l = ⊎_elim (λ p. omega arith) (λ p. omega arith) l

crossing-unit : {k u : ℕ} (j : ℕ) → Line k u → j < 9 → k + j < 27
crossing-unit j l h = ⊎_elim (λ p. omega arith) (λ p. omega arith) l

-- the crossing line of a cell is that of the cell's place
crossing : (k u j c : ℕ) → Line k u → j < 9 → in_unit (k + j) c ≡ eqb (place_in u c) j
crossing k u j c (inl p) h =
    ap (λ (x : ℕ). in_unit (x + j) c) p.1 ∙ in-col j c h
    ∙ sym (ap (λ (x : ℕ). eqb x j) (cond-true (ltb u 9) _ _ (lt-ltb u 9 p.0)))
crossing k u j c (inr p) h =
    let z : k + j ≡ j = omega arith in
    ap (λ (x : ℕ). in_unit x c) z ∙ in_row j c h
    ∙ sym (ap (λ (x : ℕ). eqb x j) (cond-false (ltb u 9) _ _ (le-ltb u 9 p.0) ∙ cond-true (ltb u 18) _ _ (lt-ltb u 18 p.1)))

meets : {k u i j : ℕ} → Line k u → i < 9 → j < 9 → Member (k + j) (unit_cell u i) ↔ (i ≡ j)
meets {k} {u} {i} {j} l h h' = (
  λ p. sym place ∙ eqb-true (place_in u (unit_cell u i)) j (sym (crossing k u j (unit_cell u i) l h') ∙ member-in (crossing-unit j l h') p),
  λ q. in-member (k + j) (unit_cell u i) (crossing-unit j l h') (cell_below u i (line-unit l) h) (crossing k u j (unit_cell u i) l h' ∙ eq-eqb (place_in u (unit_cell u i)) j (place ∙ q)),
)
  where
    place : place_in u (unit_cell u i) ≡ i
    place = cell-place u i (line-unit l) h

-- what the lines of a pattern are to the numbers of a call
crossed : {k u v x y : ℕ} → Line k u → (Rows u v × Columns x y) ⊎ (Columns u v × Rows x y) → (x ≡ k + (x - k)) × (x - k < 9) × (y ≡ k + (y - k)) × (y - k < 9)
crossed (inl p) (inl q) = omega arith
crossed (inl p) (inr q) = absurd (omega arith)
crossed (inr p) (inl q) = absurd (omega arith)
crossed (inr p) (inr q) = omega arith

crosses : {k u v a b : ℕ} → Line k u → Line k v → a < 9 → b < 9 → (Rows u v × Columns (k + a) (k + b)) ⊎ (Columns u v × Rows (k + a) (k + b))
crosses (inl p) (inl q) h h' = inl (omega arith)
crosses (inl p) (inr q) h h' = absurd (omega arith)
crosses (inr p) (inl q) h h' = absurd (omega arith)
crosses (inr p) (inr q) h h' = inr (omega arith)

cancel : (k a b : ℕ) → k + a ≡ k + b → a ≡ b
cancel k a b q = omega arith

module _ (g n : List ℕ) (d : ℕ) where
  -- of the open cells of u just those in x and y hold d
  abbrev Corners : ℕ → ℕ → ℕ → Type 0
  Corners u x y = (e : ℕ) → Member u e → Holder g n d e ↔ (Member x e ⊎ Member y e)

  two-corners : {k u a b : ℕ} → Line k u → a < 9 → b < 9 → Two (spots g n u d) a b → Corners u (k + a) (k + b)
  two-corners {k} {u} {a} {b} l h h' w e p =
      subst (λ (c : ℕ). Holder g n d c ↔ (Member (k + a) c ⊎ Member (k + b) c)) p.is (
        λ t. ⊎_elim (λ q. inl ((meets l p.within h).1 q)) (λ q. inr ((meets l p.within h').1 q)) ((w.held i).0 (holder-spot g n u d i p.within t)),
        λ t. spot-holder g n u d i ((w.held i).1 (⊎_elim (λ q. inl ((meets l p.within h).0 q)) (λ q. inr ((meets l p.within h').0 q)) t)),
      )
    where
      i : ℕ
      i = p.place

  corners-two : {k u a b : ℕ} → Line k u → a < 9 → b < 9 → a ≢ b → Corners u (k + a) (k + b) → Two (spots g n u d) a b
  corners-two {k} {u} {a} {b} l h h' apart corners = record { apart = apart; held = λ i. (λ t. down i t, ⊎_elim (λ q. up i a q h (λ z. inl ((meets l h h).1 z))) (λ q. up i b q h' (λ z. inr ((meets l h' h').1 z)))) }
    where
      down : (i : ℕ) → Held (spots g n u d) i → (i ≡ a) ⊎ (i ≡ b)
      down i t =
          let s = spot-below g n u d i t in
          ⊎_elim (λ q. inl ((meets l s h).0 q)) (λ q. inr ((meets l s h').0 q)) ((corners (unit_cell u i) (at_place u i s)).0 (spot-holder g n u d i t))

      up : (i j : ℕ) → i ≡ j → j < 9 → (j ≡ j → Member (k + a) (unit_cell u j) ⊎ Member (k + b) (unit_cell u j)) → Held (spots g n u d) i
      up i j q s meet = rw q (holder-spot g n u d j s ((corners (unit_cell u j) (at_place u j s)).1 (meet refl)))

  module _ {k u v : ℕ} (l : Line k u) (l' : Line k v) where
    -- the crossing lines are named by two places
    record Places (x y : ℕ) : Type 0 where
      one : ℕ
      two : ℕ
      is₁ : x ≡ k + one
      is₂ : y ≡ k + two
      spots₁ : Two (spots g n u d) one two
      spots₂ : Two (spots g n v d) one two

    places : {x y : ℕ} → XWing g n u v x y d → Places x y
    places {x} {y} s =
        record {
          one = x - k;
          two = y - k;
          is₁ = f.0;
          is₂ = f.2;
          spots₁ = corners-two l f.1 f.3 apart (put u s.corner₁);
          spots₂ = corners-two l' f.1 f.3 apart (put v s.corner₂);
        }
      where
        f : (x ≡ k + (x - k)) × (x - k < 9) × (y ≡ k + (y - k)) × (y - k < 9)
        f = crossed l s.crossing.lines

        apart : x - k ≢ y - k
        apart q = s.crossing.apart₂ (omega (arith, f.0, f.2))

        put : (w : ℕ) → Corners w x y → Corners w (k + (x - k)) (k + (y - k))
        put w t = subst (λ (z : ℕ). Corners w z (k + (y - k))) f.0 (subst (λ (z : ℕ). Corners w x z) f.2 t)

    wing-test : {x y : ℕ} → XWing g n u v x y d → is_x_wing g n u v d ≡ true
    wing-test w =
        let p = places w in
        both (eq-eqb (count (spots g n u d)) 2 (two-count p.spots₁)) (eq-eqb (spots g n u d) (spots g n v d) (two-ext p.spots₁ p.spots₂))

    test-two : is_x_wing g n u v d ≡ true → Two (spots g n u d) (lowest (spots g n u d)) (lowest (tail (spots g n u d)))
    test-two t = count-two (spots g n u d) (spots-small g n u d) (eqb-true (count (spots g n u d)) 2 (both_left (eqb (count (spots g n u d)) 2) (eqb (spots g n u d) (spots g n v d)) t))

    test-wing : u ≢ v → is_x_wing g n u v d ≡ true → XWing g n u v (first_across k (spots g n u d)) (second_across k (spots g n u d)) d
    test-wing apart t = go (lowest (spots g n u d)) (lowest (tail (spots g n u d))) (test-two t)
      where
        same : spots g n u d ≡ spots g n v d
        same = eqb-true (spots g n u d) (spots g n v d) (both_right (eqb (count (spots g n u d)) 2) (eqb (spots g n u d) (spots g n v d)) t)

        go : (a b : ℕ) → Two (spots g n u d) a b → XWing g n u v (k + a) (k + b) d
        go a b w =
            let h = spot-below g n u d a ((w.held a).1 (inl refl)) in
            let h' = spot-below g n u d b ((w.held b).1 (inr refl)) in
            record {
              crossing = record { lines = crosses l l' h h'; apart₁ = apart; apart₂ = λ q. w.apart (cancel k a b q) };
              corner₁ = two-corners l h h' w;
              corner₂ = two-corners l' h h' (subst (λ (x : ℕ). Two x a b) same w);
            }

    pub x-wing : u ≢ v → (is_x_wing g n u v d ≡ true) ↔ ((x : ℕ) × (y : ℕ) × XWing g n u v x y d)
    x-wing apart = (λ t. (first_across k (spots g n u d), second_across k (spots g n u d), test-wing apart t), λ w. wing-test w.2)

    -- the crossing lines are those at the two places, in either order
    pub x-wing-lines : {x y : ℕ} → XWing g n u v x y d
        → ((x ≡ first_across k (spots g n u d)) × (y ≡ second_across k (spots g n u d))) ⊎ ((x ≡ second_across k (spots g n u d)) × (y ≡ first_across k (spots g n u d)))
    x-wing-lines w =
        let p = places w in
        ⊎_elim (λ q. inl (p.is₁ ∙ ap (λ (a : ℕ). k + a) q.0, p.is₂ ∙ ap (λ (a : ℕ). k + a) q.1))
        (λ q. inr (p.is₁ ∙ ap (λ (a : ℕ). k + a) q.0, p.is₂ ∙ ap (λ (a : ℕ). k + a) q.1))
        (two-same p.spots₁ (test-two (wing-test w)))

    -- the test reads the masks n, and the removal is made on m
    pub x-wing-loses : {x y : ℕ} (m : List ℕ) → XWing g n u v x y d → Without m (XWingLoss g u v x y d) (x_wing_at g n k d u v m)
    unfolding x_wing_at
    x-wing-loses {x} {y} m w =
        lost-when (is_open g) (λ e. cond (in_unit u e || in_unit v e) 0 (single d)) (is_x_wing g n u v d)
        (unit (first_across k (spots g n u d)) ++ unit (second_across k (spots g n u d))) m (XWingLoss g u v x y d)
        (wing-test w) (cross-lost g (line-unit l) (line-unit l') units.0 units.1 (x-wing-lines w) d)
      where
        units : (x < 27) × (y < 27)
        units = ⊎_elim (λ p. omega arith) (λ p. omega arith) w.crossing.lines

    pub x-wing-none : (m : List ℕ) → is_x_wing g n u v d ≡ false → x_wing_at g n k d u v m ≡ m
    unfolding x_wing_at
    x-wing-none m t = cond-false (is_x_wing g n u v d) _ m t
