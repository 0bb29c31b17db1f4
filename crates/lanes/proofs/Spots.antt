-- The layout: what stands at a position, and the three stores of a mask. The rule is tested by two computed equations. Assumes nothing.
use mathlib.Core.Path.{◌≡◌, refl, sym, ap, ◌∙◌, subst}
use mathlib.Core.Logic.{◌≢◌, ⊎_elim}
use mathlib.Core.Bool.{Bool, cond, ◌&&◌, ◌||◌}
use mathlib.Core.List.{List, [], map}
use Prim.Native.Nat.{ℕ, ◌+◌, ◌*◌, ◌/◌, ◌%◌, ◌<◌}
use native.Mathlib.Decide.{ℕ_discrete, dec_lt}
use native.Mathlib.Omega.{arith}
use borrow.Author.Tests.{lt-ltb, le-ltb, eqb-true}
use lib.Bits.{bit_and}
use lib.Dec.{T, eqb, ltb, eqb→eq, ltb→lt}
use lib.ListN.{length, get_or, set, replicate, length-set, length-map}
use lib.Seq.{get_or-set_same, get_or-set_other, ext_get_or}
use Rattle.candidates.proofs.Tests.{below, implies, implied, T_true, and_left, and_right, either, cond-false}
use Rattle.grid.specs.Units.{units, unit}
use Rattle.grid.proofs.Lists.{at-up_to, range_length, map_same}
use Rattle.steps.specs.Boards.{at}
use Rattle.steps.specs.Loops.{up_to}
use Rattle.cells.specs.code.Places.{mask_at}
use Rattle.cells.proofs.Places.{mask_at_lem}
use Rattle.lanes.specs.code.Lanes.{unit_on, cell_at, laid_at, laid, row_spot, col_spot, box_spot, put_at, Laid, Partly}

-- ---- the rule

-- each spot of a cell is a position, and holds the cell
spotted : ℕ → ℕ → Bool
spotted c j = ltb j 432 && eqb (cell_at j) c

spots-right : (c : ℕ) → c < 81 → T (spotted c (row_spot c) && (spotted c (col_spot c) && spotted c (box_spot c)))
unfolding spotted cell_at unit_on unit units
spots-right c h = below 81 (λ c. spotted c (row_spot c) && (spotted c (col_spot c) && spotted c (box_spot c))) tt c h

-- a cell's positions are its spots
among : ℕ → Bool
among j = implies (ltb (cell_at j) 81) (eqb j (row_spot (cell_at j)) || (eqb j (col_spot (cell_at j)) || eqb j (box_spot (cell_at j))))

among-right : (j : ℕ) → j < 432 → T (among j)
unfolding among cell_at unit_on unit units
among-right j h = below 432 among tt j h

-- a position that holds a cell
pub record Spot (c j : ℕ) : Type 0 where
  pub within : j < 432
  pub holds : cell_at j ≡ c

spot : (c j : ℕ) → T (spotted c j) → Spot c j
unfolding spotted
spot c j t = record { within = ltb→lt j 432 (and_left (ltb j 432) (eqb (cell_at j) c) t); holds = eqb→eq (cell_at j) c (and_right (ltb j 432) (eqb (cell_at j) c) t) }

module _ (c : ℕ) (h : c < 81) where
  pub row-spot : Spot c (row_spot c)
  row-spot = spot c (row_spot c) (and_left (spotted c (row_spot c)) (spotted c (col_spot c) && spotted c (box_spot c)) (spots-right c h))

  two : T (spotted c (col_spot c) && spotted c (box_spot c))
  two = and_right (spotted c (row_spot c)) (spotted c (col_spot c) && spotted c (box_spot c)) (spots-right c h)

  pub col-spot : Spot c (col_spot c)
  col-spot = spot c (col_spot c) (and_left (spotted c (col_spot c)) (spotted c (box_spot c)) two)

  pub box-spot : Spot c (box_spot c)
  box-spot = spot c (box_spot c) (and_right (spotted c (col_spot c)) (spotted c (box_spot c)) two)

  -- no other position holds the cell
  off-spots : (j : ℕ) → j < 432 → j ≢ row_spot c → j ≢ col_spot c → j ≢ box_spot c → cell_at j ≢ c
  unfolding among
  off-spots j l nr nc nb e =
      ⊎_elim (λ t. nr (eqb-true j (row_spot c) t))
      (λ w. ⊎_elim (λ t. nc (eqb-true j (col_spot c) t)) (λ t. nb (eqb-true j (box_spot c) t)) ((either (eqb j (col_spot c)) (eqb j (box_spot c))).0 w))
      ((either (eqb j (row_spot c)) (eqb j (col_spot c) || eqb j (box_spot c))).0
      (T_true (eqb j (row_spot c) || (eqb j (col_spot c) || eqb j (box_spot c)))
      (subst (λ (d : ℕ). T (eqb j (row_spot d) || (eqb j (col_spot d) || eqb j (box_spot d)))) e
      (implied (ltb (cell_at j) 81) _ (among-right j l) (lt-ltb (cell_at j) 81 (subst (λ (d : ℕ). d < 81) (sym e) h))))))

-- ---- what stands at a position

pub laid-length : (m : List ℕ) → length (laid m) ≡ 432
unfolding laid
laid-length m = length-map (up_to 432) (laid_at m) ∙ range_length 432 0

laid-at : (m : List ℕ) (j : ℕ) → j < 432 → get_or (laid m) j 0 ≡ laid_at m j
unfolding laid
laid-at m j h = at-up_to (laid_at m) 0 432 j h

pub spot-at : (m : List ℕ) {c j : ℕ} → c < 81 → Spot c j → get_or (laid m) j 0 ≡ bit_and (at m c) 511
spot-at m {c} {j} h s = laid-at m j s.within ∙ ap (λ (d : ℕ). bit_and (mask_at m d) 511) s.holds ∙ ap (λ (x : ℕ). bit_and x 511) (mask_at_lem m c h)

-- masks that agree on the cells have the same lanes
pub laid_same : (m n : List ℕ) → ((c : ℕ) → c < 81 → at m c ≡ at n c) → laid m ≡ laid n
unfolding laid
laid_same m n h = map_same (laid_at m) (laid_at n) (up_to 432) (λ j l. ap (λ (x : ℕ). bit_and x 511) (by-cell (cell_at j) (dec_lt (cell_at j) 81)))
  where
    by-cell : (c : ℕ) → Dec (c < 81) → mask_at m c ≡ mask_at n c
    by-cell c (yes k) = mask_at_lem m c k ∙ h c k ∙ sym (mask_at_lem n c k)
    by-cell c (no k) = cond-false (ltb c 81) (at m c) 0 (le-ltb c 81 (omega arith)) ∙ sym (cond-false (ltb c 81) (at n c) 0 (le-ltb c 81 (omega arith)))

-- lanes that hold nothing are of no masks
pub none-laid : Laid (replicate 432 0)
unfolding laid cell_at unit_on unit units
none-laid = record { of = []; is = refl }

-- ---- the three stores

module _ (m : List ℕ) (c x : ℕ) (h : c < 81) (n : length m ≡ 81) where
  y : ℕ
  y = bit_and x 511

  one : List ℕ
  one = set (laid m) (row_spot c) y

  two-set : List ℕ
  two-set = set one (col_spot c) y

  one-length : length one ≡ 432
  unfolding one
  one-length = length-set (laid m) (row_spot c) y ∙ laid-length m

  two-length : length two-set ≡ 432
  unfolding two-set
  two-length = length-set one (col_spot c) y ∙ one-length

  three-length : length (put_at c y (laid m)) ≡ 432
  unfolding two-set one
  three-length = length-set two-set (box_spot c) y ∙ two-length

  after : (j : ℕ) → Spot c j → get_or (laid (set m c x)) j 0 ≡ y
  unfolding y
  after j s = spot-at (set m c x) h s ∙ ap (λ (z : ℕ). bit_and z 511) (get_or-set_same m c x 0 (omega arith))

  stored : (j : ℕ) → j < 432 → get_or (put_at c y (laid m)) j 0 ≡ get_or (laid (set m c x)) j 0
  unfolding two-set one
  stored j l = go (ℕ_discrete j (box_spot c)) (ℕ_discrete j (col_spot c)) (ℕ_discrete j (row_spot c))
    where
      other : j ≢ row_spot c → j ≢ col_spot c → j ≢ box_spot c → laid_at m j ≡ laid_at (set m c x) j
      other r k b = ap (λ (z : ℕ). bit_and z 511) (by-cell (cell_at j) (off-spots c h j l r k b))
        where
          by-cell : (e : ℕ) → e ≢ c → mask_at m e ≡ mask_at (set m c x) e
          by-cell e o = ap (λ (z : ℕ). cond (ltb e 81) z 0) (sym (get_or-set_other m c e x 0 o))

      go : Dec (j ≡ box_spot c) → Dec (j ≡ col_spot c) → Dec (j ≡ row_spot c) → get_or (put_at c y (laid m)) j 0 ≡ get_or (laid (set m c x)) j 0
      go (yes e) r k =
          subst (λ (i : ℕ). get_or (put_at c y (laid m)) i 0 ≡ get_or (laid (set m c x)) i 0) (sym e)
          (get_or-set_same two-set (box_spot c) y 0 (omega (arith, two-length, (box-spot c h).within)) ∙ sym (after (box_spot c) (box-spot c h)))
      go (no b) (yes e) k =
          get_or-set_other two-set (box_spot c) j y 0 b
          ∙ subst (λ (i : ℕ). get_or two-set i 0 ≡ get_or (laid (set m c x)) i 0) (sym e)
          (get_or-set_same one (col_spot c) y 0 (omega (arith, one-length, (col-spot c h).within)) ∙ sym (after (col_spot c) (col-spot c h)))
      go (no b) (no r) (yes e) =
          get_or-set_other two-set (box_spot c) j y 0 b ∙ get_or-set_other one (col_spot c) j y 0 r
          ∙ subst (λ (i : ℕ). get_or one i 0 ≡ get_or (laid (set m c x)) i 0) (sym e)
          (get_or-set_same (laid m) (row_spot c) y 0 (omega (arith, laid-length m, (row-spot c h).within)) ∙ sym (after (row_spot c) (row-spot c h)))
      go (no b) (no r) (no k) =
          get_or-set_other two-set (box_spot c) j y 0 b ∙ get_or-set_other one (col_spot c) j y 0 r ∙ get_or-set_other (laid m) (row_spot c) j y 0 k
          ∙ laid-at m j l ∙ other k r b ∙ sym (laid-at (set m c x) j l)

  laid-set : put_at c (bit_and x 511) (laid m) ≡ laid (set m c x)
  unfolding y
  laid-set = ext_get_or 0 (put_at c y (laid m)) (laid (set m c x)) (three-length ∙ sym (laid-length (set m c x))) (λ j l. stored j (omega (arith, three-length)))

-- masks of which one cell is another's
pub laid_one : (m n : List ℕ) (c : ℕ) → c < 81 → ((e : ℕ) → e ≢ c → at n e ≡ at m e) → put_at c (bit_and (at n c) 511) (laid m) ≡ laid n
laid_one m n c h other =
    ap (put_at c (bit_and (at n c) 511)) (laid_same m cells (λ e k. sym (reads e k)))
    ∙ laid-set cells c (at n c) h size
    ∙ laid_same (set cells c (at n c)) n (λ e k. go e k (ℕ_discrete e c))
  where
    cells : List ℕ
    cells = map (at m) (up_to 81)

    size : length (map (at m) (up_to 81)) ≡ 81
    size = length-map (up_to 81) (at m) ∙ range_length 81 0

    reads : (e : ℕ) → e < 81 → at (map (at m) (up_to 81)) e ≡ at m e
    reads e k = at-up_to (at m) 0 81 e k

    go : (e : ℕ) → e < 81 → Dec (e ≡ c) → at (set (map (at m) (up_to 81)) c (at n c)) e ≡ at n e
    go e k (yes r) = subst (λ (d : ℕ). at (set (map (at m) (up_to 81)) c (at n c)) d ≡ at n d) (sym r) (get_or-set_same (map (at m) (up_to 81)) c (at n c) 0 (omega (arith, size)))
    go e k (no r) = get_or-set_other (map (at m) (up_to 81)) c e (at n c) 0 r ∙ reads e k ∙ sym (other e r)

-- ---- cell by cell

pub partly-start : (m : List ℕ) {p : List ℕ} → Laid p → Partly m 0 p
partly-start m {p} w = record {
  of = map (at w.of) (up_to 81);
  size = length-map (up_to 81) (at w.of) ∙ range_length 81 0;
  is = w.is ∙ laid_same w.of (map (at w.of) (up_to 81)) (λ c h. sym (at-up_to (at w.of) 0 81 c h));
  below = λ e h. absurd (omega arith);
}

pub partly-on : {m : List ℕ} {c d : ℕ} {p q : List ℕ} → c < 81 → d ≡ c + 1 → Partly m c p → q ≡ put_at c (bit_and (at m c) 511) p → Partly m d q
partly-on {m} {c} {d} {p} {q} h next w e = record {
  of = set w.of c (at m c);
  size = length-set w.of c (at m c) ∙ w.size;
  is = e ∙ ap (put_at c (bit_and (at m c) 511)) w.is ∙ laid-set w.of c (at m c) h w.size;
  below = λ i k. go i k (ℕ_discrete i c);
}
  where
    go : (i : ℕ) → i < d → Dec (i ≡ c) → at (set w.of c (at m c)) i ≡ at m i
    go i k (yes r) = subst (λ (d : ℕ). at (set w.of c (at m c)) d ≡ at m d) (sym r) (get_or-set_same w.of c (at m c) 0 (omega (arith, w.size)))
    go i k (no r) = get_or-set_other w.of c i (at m c) 0 r ∙ w.below i (omega arith)

pub partly-to : {m : List ℕ} {c d : ℕ} {p : List ℕ} → c ≡ d → Partly m c p → Partly m d p
partly-to {m} {c} {d} {p} e w = subst (λ (i : ℕ). Partly m i p) e w

pub partly-end : {m p : List ℕ} → Partly m 81 p → p ≡ laid m
partly-end {m} {p} w = w.is ∙ laid_same w.of m (λ c h. w.below c h)

-- ---- a cell by its row and column

pub put_is : (p : List ℕ) (r k x : ℕ) → k < 9
    → set (set (set p (48 * k + r) x) (48 * r + 16 + k) x) (48 * (3 * (r % 3) + k % 3) + 32 + 3 * (r / 3) + k / 3) x ≡ put_at (9 * r + k) x p
put_is p r k x h =
    let a : (9 * r + k) / 9 ≡ r = omega arith in
    let b : (9 * r + k) % 9 ≡ k = omega arith in
    rw (a, b)
