-- A digit that is not due by the rests loses nothing: no open cell of a unit that meets this one holds it outside this one, where this one holds it in that alone. Assumes nothing.
use mathlib.Core.Path.{◌≡◌, refl, sym, ap, ◌∙◌, subst}
use mathlib.Core.Logic.{◌≢◌}
use mathlib.Core.Bool.{Bool, true, false, cond, not, ◌&&◌, true≢false}
use mathlib.Core.List.{List}
use Prim.Native.Nat.{ℕ, ◌+◌, ◌*◌, ◌-◌, ◌/◌, ◌%◌, ◌≤◌, ◌<◌}
use native.Mathlib.Decide.{ℕ_discrete, dec_lt}
use native.Mathlib.Omega.{arith}
use borrow.Author.Tests.{lt-ltb, le-ltb, ltb-true, ltb-false, eqb-true}
use lib.Bits.{bit_and}
use lib.Dec.{eqb, ltb, eqb→eq, ltb→lt}
use lib.ListN.{length, replicate}
use Rattle.candidates.specs.Masks.{has, minus, union, place_mask, Sub}
use Rattle.candidates.proofs.Held.{Held, held-minus, held-sub, held_all}
use Rattle.candidates.proofs.Order.{sub_trans, sub-of-minus, union_left, union_right}
use Rattle.candidates.proofs.Tests.{and_left, and_right, below_both, implies, implied, by-test, cond-true, cond-false}
use Rattle.grid.specs.Units.{unit_cell}
use Rattle.grid.proofs.Lists.{at-up_to}
use Rattle.grid.proofs.Units.{cell_below}
use Rattle.steps.specs.Boards.{at, is_open, Under}
use Rattle.steps.specs.Loops.{each, for, range, up_to}
use Rattle.steps.specs.code.Logs.{log_after}
use Rattle.steps.proofs.Loops.{in-up_to, each-idle}
use Rattle.cells.specs.code.Places.{all_masks, lose_places, held_places}
use Rattle.cells.specs.code.Meets.{meetings, met_places, met_back, outside, box_unit, line_unit, met_unit, meet_turn, meet_turns}
use Rattle.cells.proofs.HeldPlaces.{has-held}
use Rattle.cells.proofs.Meetings.{three-boxes, six-lines, met-below}
use Rattle.cells.proofs.Places.{all-mask}
use Rattle.cells.proofs.NineBits.{place_is, not-held, held-meet}
use Rattle.cells.proofs.Shared.{joined_at_lem, at_joined}
use Rattle.lanes.specs.code.Lanes.{laid, doors_of, lane_at, lane_masks, Alike, lane_of}
use Rattle.lanes.proofs.LaneUnits.{lane-reads, lane-holds}
use Rattle.locked.specs.code.Locked.{unit_instances, locked_unit, units_of, DigitSkips}
use Rattle.locked.specs.code.Rests.{loose_masks, rest_of, put_rests, Rests, renewed, due_on, due_three, row_due, col_due, box_due, unit_due, NoneDue}
use Rattle.locked.proofs.LockedTurns.{locked-digit, units-past}
use Rattle.locked.proofs.LockedDue.{places-idle, none-due}
use Rattle.locked.proofs.RestTable.{rests-read, renewed-size, renewed-own, renewed-other}

-- ---- the lane of a unit

-- an open cell's digit stands in its lane with the doors
in_lane : (g m : List ℕ) (u i d : ℕ) → u < 27 → i < 9 → d < 9 → is_open g (unit_cell u i) ≡ true → Held (at m (unit_cell u i)) d → Held (at (loose_masks (laid m) (laid (doors_of g)) (lane_of u)) i) d
unfolding loose_masks doors_of
in_lane g m u i d hu hi hd free t =
    subst (λ (x : ℕ). Held x d) (sym (at-up_to (λ i. bit_and (lane_at (laid m) (lane_of u) i) (lane_at (laid (doors_of g)) (lane_of u) i)) 0 9 i hi))
    ((held-meet (lane_at (laid m) (lane_of u) i) (lane_at (laid (doors_of g)) (lane_of u) i) d).1 (
      subst (λ (x : ℕ). Held x d) (sym (lane-holds u i hu hi m)) ((held-meet (at m (unit_cell u i)) 511 d).1 (t, held_all d hd)),
      subst (λ (x : ℕ). Held x d) (sym (lane-holds u i hu hi (doors_of g) ∙ ap (λ (x : ℕ). bit_and x 511) door)) (held_all d hd),
    ))
  where
    door : at (doors_of g) (unit_cell u i) ≡ 511
    door = at-up_to (λ c. cond (is_open g c) 511 0) 0 81 (unit_cell u i) (cell_below u i hu hi) ∙ cond-true (is_open g (unit_cell u i)) 511 0 free

-- ---- where the rests of a unit and of those that meet it stand

-- what the k-th unit that meets u holds outside u
abbrev out_at : ℕ → ℕ → ℕ
out_at u k = 48 * met_back u k + lane_of (met_unit u k)

-- what u holds outside it
abbrev off_at : ℕ → ℕ → ℕ
off_at u k = 48 * k + lane_of u

row_out : (u k : ℕ) → u < 9 → k < 3 → out_at u k ≡ 48 * (u % 3) + 32 + 3 * (u / 3) + k * 1
unfolding met_back met_unit box_unit
row_out u k hu hk = eqb→eq _ _ (below_both 9 3 (λ u k. eqb (out_at u k) (48 * (u % 3) + 32 + 3 * (u / 3) + k * 1)) tt u k hu hk)

col-out : (u k : ℕ) → u < 9 → k < 3 → out_at (9 + u) k ≡ 48 * (3 + u % 3) + 32 + u / 3 + k * 3
unfolding met_back met_unit box_unit
col-out u k hu hk = eqb→eq _ _ (below_both 9 3 (λ u k. eqb (out_at (9 + u) k) (48 * (3 + u % 3) + 32 + u / 3 + k * 3)) tt u k hu hk)

box-row-out : (u k : ℕ) → u < 9 → k < 3 → out_at (18 + u) k ≡ 48 * (u % 3) + 3 * (u / 3) + k * 1
unfolding met_back met_unit line_unit
box-row-out u k hu hk = eqb→eq _ _ (below_both 9 3 (λ u k. eqb (out_at (18 + u) k) (48 * (u % 3) + 3 * (u / 3) + k * 1)) tt u k hu hk)

box-col-out : (u k : ℕ) → u < 9 → k < 3 → out_at (18 + u) (3 + k) ≡ 48 * (u / 3) + 16 + 3 * (u % 3) + k * 1
unfolding met_back met_unit line_unit
box-col-out u k hu hk = eqb→eq _ _ (below_both 9 3 (λ u k. eqb (out_at (18 + u) (3 + k)) (48 * (u / 3) + 16 + 3 * (u % 3) + k * 1)) tt u k hu hk)

-- ---- what the code joins

module _ (r : List ℕ) where
  abbrev due_at : ℕ → ℕ → ℕ
  due_at u k = minus (at r (out_at u k)) (at r (off_at u k))

  in_three : (here across step k : ℕ) → k < 3 → {i j : ℕ} → i ≡ across + k * step → j ≡ here + 48 * k → Sub (minus (at r i) (at r j)) (due_three r here across step)
  unfolding due_three
  in_three here across step k h {i} {j} a b = go (ℕ_discrete k 0) (ℕ_discrete k 1)
    where
      one : ℕ
      one = due_on r here across

      two : ℕ
      two = due_on r (here + 48) (across + step)

      three : ℕ
      three = due_on r (here + 96) (across + 2 * step)

      put : {x y : ℕ} → i ≡ x → j ≡ y → Sub (due_on r y x) (due_three r here across step) → Sub (minus (at r i) (at r j)) (due_three r here across step)
      put {x} {y} e f w = subst (λ (z : ℕ). Sub (minus (at r z) (at r j)) (due_three r here across step)) (sym e) (subst (λ (z : ℕ). Sub (minus (at r x) (at r z)) (due_three r here across step)) (sym f) w)

      go : Dec (k ≡ 0) → Dec (k ≡ 1) → Sub (minus (at r i) (at r j)) (due_three r here across step)
      go (yes e) f = put (a ∙ ap (λ (z : ℕ). across + z * step) e ∙ omega arith) (omega arith) (sub_trans (union_left one two) (union_left (union one two) three))
      go (no e) (yes f) = put (a ∙ ap (λ (z : ℕ). across + z * step) f ∙ omega arith) (omega arith) (sub_trans (union_right one two) (union_left (union one two) three))
      go (no e) (no f) =
          let t : k ≡ 2 = omega arith in
          put (a ∙ ap (λ (z : ℕ). across + z * step) t ∙ omega arith) (omega arith) (union_right (union one two) three)

  in_row : (u k : ℕ) → u < 9 → k < 3 → Sub (due_at u k) (unit_due r u)
  unfolding unit_due
  in_row u k hu hk =
      subst (Sub (due_at u k)) (sym (cond-true (ltb u 9) (row_due r u) (cond (ltb u 18) (col_due r (u - 9)) (box_due r (u - 18))) (lt-ltb u 9 hu)))
      (in_three u (48 * (u % 3) + 32 + 3 * (u / 3)) 1 k hk (row_out u k hu hk) (omega arith))

  in-col : (u k : ℕ) → u < 9 → k < 3 → Sub (due_at (9 + u) k) (unit_due r (9 + u))
  unfolding unit_due
  in-col u k hu hk =
      let e : 9 + u - 9 ≡ u = omega arith in
      subst (Sub (due_at (9 + u) k))
      (sym (cond-false (ltb (9 + u) 9) (row_due r (9 + u)) (cond (ltb (9 + u) 18) (col_due r (9 + u - 9)) (box_due r (9 + u - 18))) (le-ltb (9 + u) 9 (omega arith))
      ∙ cond-true (ltb (9 + u) 18) (col_due r (9 + u - 9)) (box_due r (9 + u - 18)) (lt-ltb (9 + u) 18 (omega arith)) ∙ ap (col_due r) e))
      (in_three (16 + u) (48 * (3 + u % 3) + 32 + u / 3) 3 k hk (col-out u k hu hk) (omega arith))

  box-is : (u : ℕ) → unit_due r (18 + u) ≡ box_due r u
  unfolding unit_due
  box-is u =
      let e : 18 + u - 18 ≡ u = omega arith in
      cond-false (ltb (18 + u) 9) (row_due r (18 + u)) (cond (ltb (18 + u) 18) (col_due r (18 + u - 9)) (box_due r (18 + u - 18))) (le-ltb (18 + u) 9 (omega arith))
      ∙ cond-false (ltb (18 + u) 18) (col_due r (18 + u - 9)) (box_due r (18 + u - 18)) (le-ltb (18 + u) 18 (omega arith)) ∙ ap (box_due r) e

  abbrev rows_due : ℕ → ℕ
  rows_due u = due_three r (32 + u) (48 * (u % 3) + 3 * (u / 3)) 1

  abbrev cols_due : ℕ → ℕ
  cols_due u = due_three r (176 + u) (48 * (u / 3) + 16 + 3 * (u % 3)) 1

  in-box-row : (u k : ℕ) → u < 9 → k < 3 → Sub (due_at (18 + u) k) (unit_due r (18 + u))
  in-box-row u k hu hk =
      subst (Sub (due_at (18 + u) k)) (sym (box-is u))
      (sub_trans (in_three (32 + u) (48 * (u % 3) + 3 * (u / 3)) 1 k hk (box-row-out u k hu hk) (omega arith)) (union_left (rows_due u) (cols_due u)))

  in-box-col : (u k : ℕ) → u < 9 → k < 3 → Sub (due_at (18 + u) (3 + k)) (unit_due r (18 + u))
  in-box-col u k hu hk =
      subst (Sub (due_at (18 + u) (3 + k))) (sym (box-is u))
      (sub_trans (in_three (176 + u) (48 * (u / 3) + 16 + 3 * (u % 3)) 1 k hk (box-col-out u k hu hk) (omega arith)) (union_right (rows_due u) (cols_due u)))

  at-due : (u k : ℕ) → u < 27 → k < meetings u → Sub (due_at u k) (unit_due r u)
  at-due u k hu hk = go (dec_lt u 9) (dec_lt u 18) (dec_lt k 3)
    where
      go : Dec (u < 9) → Dec (u < 18) → Dec (k < 3) → Sub (due_at u k) (unit_due r u)
      go (yes a) b c = in_row u k a (omega (arith, three-boxes {l = u} (omega arith), hk))
      go (no a) (yes b) c =
          let e : 9 + (u - 9) ≡ u = omega arith in
          subst (λ (v : ℕ). Sub (due_at v k) (unit_due r v)) e (in-col (u - 9) k (omega arith) (omega (arith, three-boxes b, hk)))
      go (no a) (no b) (yes c) =
          let e : 18 + (u - 18) ≡ u = omega arith in
          subst (λ (v : ℕ). Sub (due_at v k) (unit_due r v)) e (in-box-row (u - 18) k (omega arith) c)
      go (no a) (no b) (no c) =
          let e : 18 + (u - 18) ≡ u = omega arith in
          let z : 3 + (k - 3) ≡ k = omega arith in
          subst (λ (v : ℕ). Sub (due_at v k) (unit_due r v)) e (subst (λ (j : ℕ). Sub (due_at (18 + (u - 18)) j) (unit_due r (18 + (u - 18)))) z (in-box-col (u - 18) (k - 3) (omega arith) (omega (arith, six-lines {u = u} (omega arith), hk))))

-- ---- what stands there

-- where u is a box, those that meet it are lines, and where it is a line, boxes
module _ (u k : ℕ) (hu : u < 27) (hk : k < meetings u) where
  lines-meet : 18 ≤ u → (met_unit u k < 18) × (met_back u k < 3)
  unfolding met_back met_unit box_unit line_unit
  lines-meet h =
      let t = implied (ltb 17 u) (ltb (met_unit u k) 18 && ltb (met_back u k) 3) (below_both 27 6 (λ u k. implies (ltb 17 u) (ltb (met_unit u k) 18 && ltb (met_back u k) 3)) tt u k hu (omega (arith, six-lines h, hk))) (lt-ltb 17 u (omega arith)) in
      (ltb→lt (met_unit u k) 18 (and_left (ltb (met_unit u k) 18) (ltb (met_back u k) 3) t), ltb→lt (met_back u k) 3 (and_right (ltb (met_unit u k) 18) (ltb (met_back u k) 3) t))

  boxes-meet : u < 18 → (18 ≤ met_unit u k) × (met_back u k < 6)
  unfolding met_back met_unit box_unit line_unit
  boxes-meet h =
      let t = below_both 18 3 (λ u k. ltb 17 (met_unit u k) && ltb (met_back u k) 6) tt u k h (omega (arith, three-boxes h, hk)) in
      let v = ltb→lt 17 (met_unit u k) (and_left (ltb 17 (met_unit u k)) (ltb (met_back u k) 6) t) in
      (omega (arith, v), ltb→lt (met_back u k) 6 (and_right (ltb 17 (met_unit u k)) (ltb (met_back u k) 6) t))

module _ (p q : List ℕ) (r : List ℕ) (u k : ℕ) (hu : u < 27) (hk : k < meetings u) where
  out-is : (boxes : Bool) → Rests p q boxes r → ltb u 18 ≡ not boxes → at r (out_at u k) ≡ rest_of (loose_masks p q (lane_of (met_unit u k))) (met_back u k)
  out-is true w e = let b = lines-meet u k hu hk (ltb-false u 18 e) in w.lines (met_back u k) (lane_of (met_unit u k)) b.1 (omega (arith, b.0))
  out-is false w e = let b = boxes-meet u k hu hk (ltb-true u 18 e) in w.blocks (met_back u k) (lane_of (met_unit u k)) b.1 (omega (arith, b.0)) (omega (arith, met-below u k hu hk))

  off-is : (boxes : Bool) → Rests p q boxes r → ltb u 18 ≡ not boxes → at r (off_at u k) ≡ rest_of (lane_masks p (lane_of u)) k
  off-is true w e = let h = ltb-false u 18 e in w.blocks k (lane_of u) (omega (arith, six-lines h, hk)) (omega (arith, h)) (omega arith)
  off-is false w e = let h = ltb-true u 18 e in w.lines k (lane_of u) (omega (arith, three-boxes h, hk)) (omega (arith, h))

-- ---- what the table says of the masks

-- what the units that may lose hold outside those that meet them is in their rests
pub record Outs (g m : List ℕ) (boxes : Bool) (r : List ℕ) : Type 0 where
  pub size : length r ≡ 288
  pub there : (u k i d : ℕ) → u < 27 → ltb u 18 ≡ not boxes → k < meetings u → i < 9 → d < 9 → Held (outside u k) i → is_open g (unit_cell (met_unit u k) i) ≡ true → Held (at m (unit_cell (met_unit u k) i)) d → Held (at r (out_at u k)) d

-- what is in a unit's own rests, it holds there
pub record Owns (m : List ℕ) (u : ℕ) (r : List ℕ) : Type 0 where
  pub from : (k d : ℕ) → k < meetings u → Held (at r (off_at u k)) d → (i : ℕ) × (i < 9) × Held (minus 511 (met_places k)) i × Held (at m (unit_cell u i)) d

pub outs-less : {g m n o : List ℕ} {boxes : Bool} {r : List ℕ} → o ≡ n → Under n m → Outs g m boxes r → Outs g o boxes r
outs-less e p w = rw e (record { size = w.size; there = λ u k i d hu kind hk hi hd out free t. w.there u k i d hu kind hk hi hd out free (held-sub d (p.at (unit_cell (met_unit u k) i)) t) })

-- the table as it was written
rests-laid : (g m : List ℕ) {q p r : List ℕ} {boxes : Bool} → q ≡ laid (doors_of g) → p ≡ laid m → Rests p q boxes r → Rests (laid m) (laid (doors_of g)) boxes r
rests-laid g m {q} {p} {r} {boxes} doors lanes w = subst (λ (z : List ℕ). Rests (laid m) z boxes r) doors (subst (λ (z : List ℕ). Rests z q boxes r) lanes w)

module _ (g m r : List ℕ) (boxes : Bool) where
  module _ (w : Rests (laid m) (laid (doors_of g)) boxes r) where
    outs-laid : Outs g m boxes r
    unfolding outside
    outs-laid = record {
      size = w.size;
      there = λ u k i d hu kind hk hi hd o free t. subst (λ (x : ℕ). Held x d) (sym (out-is (laid m) (laid (doors_of g)) r u k hu hk boxes w kind))
          (joined_at_lem (loose_masks (laid m) (laid (doors_of g)) (lane_of (met_unit u k))) (minus 511 (met_places (met_back u k))) d i hi o (in_lane g m (met_unit u k) i d (met-below u k hu hk) hi hd free t));
    }

    owns-laid : (u : ℕ) → u < 27 → ltb u 18 ≡ not boxes → Owns m u r
    owns-laid u hu kind = record {
      from = λ k d hk t.
          let v = at_joined (lane_masks (laid m) (lane_of u)) (minus 511 (met_places k)) d (subst (λ (x : ℕ). Held x d) (off-is (laid m) (laid (doors_of g)) r u k hu hk boxes w kind) t) in
          let here = subst (λ (x : ℕ). Held x d) (lane-reads (laid m) (lane_of u) v.0 v.1 ∙ lane-holds u v.0 hu v.1 m) v.3 in
          (v.0, v.1, v.2, ((held-meet (at m (unit_cell u v.0)) 511 d).0 here).0);
    }

  module _ (u : ℕ) (hu : u < 27) (kind : ltb u 18 ≡ not boxes) (w : Outs g m boxes r) where
    -- a unit's lane is none of those that meet one of its kind
    apart : (b : Bool) → ltb u 18 ≡ not b → (v k : ℕ) → v < 27 → ltb v 18 ≡ not b → k < meetings v → lane_of (met_unit v k) ≢ lane_of u
    apart true e v k hv f hk q = absurd (omega (arith, (lines-meet v k hv hk (ltb-false v 18 f)).0, ltb-false u 18 e))
    apart false e v k hv f hk q = absurd (omega (arith, (boxes-meet v k hv hk (ltb-true v 18 f)).0, ltb-true u 18 e))

    outs-renewed : Outs g m boxes (renewed (all_masks m u) u r)
    outs-renewed = record {
      size = renewed-size (all_masks m u) u hu r w.size;
      there = λ v k i d hv f hk hi hd o free t. subst (λ (x : ℕ). Held x d) (sym (renewed-other (all_masks m u) u hu r w.size (met_back v k) (lane_of (met_unit v k)) (omega (arith, met-below v k hv hk)) (apart boxes kind v k hv f hk))) (w.there v k i d hv f hk hi hd o free t);
    }

    owns-renewed : Owns m u (renewed (all_masks m u) u r)
    owns-renewed = record {
      from = λ k d hk t.
          let v = at_joined (all_masks m u) (minus 511 (met_places k)) d (subst (λ (x : ℕ). Held x d) (renewed-own (all_masks m u) u hu r w.size k hk) t) in
          (v.0, v.1, v.2, subst (λ (x : ℕ). Held x d) (all-mask m u v.0 hu v.1) v.3);
    }

-- ---- a digit that is not due

module _ (g m r : List ℕ) (boxes : Bool) (u : ℕ) (hu : u < 27) (outs : Outs g m boxes r) (owns : Owns m u r) (kind : ltb u 18 ≡ not boxes) where
  module _ (d : ℕ) (l : d < 9) (n : List ℕ) (same : Alike d n m) where
    -- an open cell's digit is in the rest of its unit
    in-out : (k : ℕ) → k < meetings u → (i : ℕ) → i < 9 → Held (outside u k) i → is_open g (unit_cell (met_unit u k) i) ≡ true → Held (at n (unit_cell (met_unit u k) i)) d → Held (at r (out_at u k)) d
    in-out k hk i hi o free t = outs.there u k i d hu kind hk hi l o free (sym (same.at (unit_cell (met_unit u k) i)) ∙ t)

    -- where the unit holds d in the k-th alone, d is not in its rest
    not-off : (k : ℕ) → k < meetings u → minus (held_places n u d) (met_places k) ≡ 0 → Held (at r (off_at u k)) d → ⊥
    not-off k hk e t =
        let v = owns.from k d hk t in
        ((held-minus 511 (met_places k) v.0).0 v.2).1 (held-sub v.0 (sub-of-minus (held_places n u d) (met_places k) e) (has-held n u d hu v.0 v.1 ∙ same.at (unit_cell u v.0) ∙ v.3))

    turn-idle : has (unit_due r u) d ≡ false → (k : ℕ) → k < meetings u → meet_turn g u d (held_places n u d) k n ≡ n
    unfolding meet_turn
    turn-idle free k hk =
        by-test (λ (x : List ℕ). x ≡ n) (eqb (minus (held_places n u d) (met_places k)) 0) (lose_places (is_open g) (met_unit u k) (outside u k) (place_mask d) n) n
        (λ t. places-idle g (met_unit u k) (outside u k) (place_mask d) n (met-below u k hu hk)
        (λ i hi o op. subst (λ (x : ℕ). bit_and (at n (unit_cell (met_unit u k) i)) x ≡ 0) (sym (place_is d l))
        (not-held (at n (unit_cell (met_unit u k) i)) d
        (λ s. true≢false (sym (held-sub d (at-due r u k hu hk) ((held-minus (at r (out_at u k)) (at r (off_at u k)) d).1 (in-out k hk i hi o op s, not-off k hk (eqb-true (minus (held_places n u d) (met_places k)) 0 t)))) ∙ free))))) (λ t. refl)

  pub rest-skips : DigitSkips g m u (unit_due r u)
  unfolding meet_turns
  rest-skips = record {
    idle = λ d l free n same. locked-digit g u d hu l n ∙ each-idle (meet_turn g u d (held_places n u d)) (up_to (meetings u)) n (λ k o. turn-idle d l n same free k (in-up_to (meetings u) k o));
  }

-- ---- the boxes, or the lines

kind : (boxes : Bool) (u : ℕ) → cond boxes 18 0 ≤ u → u < cond boxes 27 18 → (u < 27) × (ltb u 18 ≡ not boxes)
kind true u from to = (to, le-ltb u 18 from)
kind false u from to = (omega (arith, to), lt-ltb u 18 to)

most : (boxes : Bool) → cond boxes 27 18 ≤ 27
most true = omega arith
most false = omega arith

units-are : (boxes : Bool) → range (cond boxes 27 18 - cond boxes 18 0) (cond boxes 18 0) ≡ units_of boxes
unfolding units_of
units-are true = refl
units-are false = refl

-- as code finds it: the unit's own rests taken anew
pub now-skips : (g m : List ℕ) {r s nine : List ℕ} {boxes : Bool} {due : ℕ} (u : ℕ) → cond boxes 18 0 ≤ u → u < cond boxes 27 18 → Outs g m boxes r → nine ≡ all_masks m u → s ≡ renewed nine u r → due ≡ unit_due s u
    → (u < 27) × Outs g m boxes s × DigitSkips g m u due
now-skips g m {r} {s} {nine} {boxes} u from to outs read is due-is =
    let k = kind boxes u from to in
    let o = outs-renewed g m r boxes u k.0 k.1 outs in
    rw (due-is, is, read) (k.0, o, rest-skips g m (renewed (all_masks m u) u r) boxes u k.0 o (owns-renewed g m r boxes u k.0 k.1 outs) k.1)

-- and before that: the units before the first of which anything is due lose nothing
none_before : (g m : List ℕ) {r : List ℕ} {boxes : Bool} {s : ℕ} → Rests (laid m) (laid (doors_of g)) boxes r → NoneDue r (cond boxes 18 0) s → (u : ℕ) → cond boxes 18 0 ≤ u → u < s → u < cond boxes 27 18 → locked_unit g u m ≡ m
none_before g m {r} {boxes} w none u from before to =
    let k = kind boxes u from to in
    none-due g m u (rest-skips g m r boxes u k.0 (outs-laid g m r boxes w) (owns-laid g m r boxes w u k.0 k.1) k.1) (none.none u from before)

pub first-skips : (g m l : List ℕ) {q p r : List ℕ} {boxes : Bool} {s : ℕ} → q ≡ laid (doors_of g) → p ≡ laid m → r ≡ put_rests p q boxes (replicate 288 0) → NoneDue r (cond boxes 18 0) s
    → (cond boxes 18 0 ≤ s) × Outs g m boxes r × (each (locked_unit g) (range (cond boxes 27 18 - s) s) m ≡ each (locked_unit g) (units_of boxes) m)
    × (log_after g (for (range (cond boxes 27 18 - s) s) unit_instances) m l ≡ log_after g (for (units_of boxes) unit_instances) m l)
first-skips g m l {q} {p} {r} {boxes} {s} doors masks put none =
    let table = rests-laid g m doors masks (rests-read p q boxes (replicate 288 0) refl put) in
    let left = units-past g (cond boxes 18 0) (cond boxes 27 18) (most boxes) m l s none.from (none_before g m table none) in (
      none.from,
      outs-laid g m r boxes table,
      left.0 ∙ ap (λ (us : List ℕ). each (locked_unit g) us m) (units-are boxes),
      left.1 ∙ ap (λ (us : List ℕ). log_after g (for us unit_instances) m l) (units-are boxes),
    )
