-- The lanes of units: lane 16 f + k of family f, the rows, the columns or the boxes, is unit 9 f + k, and holds the nine digits of its masks. Assumes nothing.
use mathlib.Core.Path.{◌≡◌, sym, ap, ◌∙◌, subst}
use mathlib.Core.Bool.{true, cond}
use mathlib.Core.List.{List}
use Prim.Native.Nat.{ℕ, ◌+◌, ◌*◌, ◌/◌, ◌%◌, ◌<◌}
use native.Mathlib.Omega.{arith}
use borrow.Author.Tests.{lt-ltb}
use lib.Bits.{bit_and, and_le_r}
use lib.Dec.{ltb}
use Rattle.candidates.specs.Masks.{Sub}
use Rattle.candidates.proofs.Tests.{cond-true}
use Rattle.grid.specs.Units.{unit_cell}
use Rattle.grid.proofs.Lists.{at-up_to, map_same}
use Rattle.grid.proofs.Units.{cell_below}
use Rattle.steps.specs.Boards.{at, is_open}
use Rattle.steps.specs.Loops.{up_to}
use Rattle.steps.proofs.Loops.{in-up_to}
use Rattle.cells.specs.code.Places.{all_masks}
use Rattle.cells.proofs.NineBits.{nine-small}
use Rattle.cells.proofs.Places.{all-mask}
use Rattle.cells.proofs.Shared.{union-at, union-none}
use Rattle.lanes.specs.code.Lanes.{unit_on, cell_at, laid, doors_of, lane_at, loose_of, loose_sets, joined_sets, lane_masks, nines, lane_of}
use Rattle.lanes.proofs.Spots.{Spot, spot-at}

module _ (f k : ℕ) (hf : f < 3) (hk : k < 9) where
  pub unit-on : unit_on (16 * f + k) ≡ 9 * f + k
  unfolding unit_on
  unit-on =
      let a : (16 * f + k) % 16 ≡ k = omega arith in
      let b : (16 * f + k) / 16 ≡ f = omega arith in
      rw (a, b) (cond-true (ltb k 9) (9 * f + k) 27 (lt-ltb k 9 hk))

  module _ (i : ℕ) (hi : i < 9) where
    lane-spot : Spot (unit_cell (9 * f + k) i) (48 * i + (16 * f + k))
    unfolding cell_at
    lane-spot =
        let a : (48 * i + (16 * f + k)) / 48 ≡ i = omega arith in
        let b : (48 * i + (16 * f + k)) % 48 ≡ 16 * f + k = omega arith in
        record { within = omega arith; holds = rw (a, b) (ap (λ (u : ℕ). unit_cell u i) unit-on) }

    pub lane-at : (m : List ℕ) → lane_at (laid m) (16 * f + k) i ≡ bit_and (at m (unit_cell (9 * f + k) i)) 511
    lane-at m = spot-at m (cell_below (9 * f + k) i (omega arith) hi) lane-spot

    -- what an open cell holds is loose
    pub in-loose : (g m : List ℕ) → is_open g (unit_cell (9 * f + k) i) ≡ true
        → Sub (bit_and (at m (unit_cell (9 * f + k) i)) 511) (at (loose_sets (laid m) (laid (doors_of g)) (16 * f)) k)
    unfolding loose_sets loose_of doors_of
    in-loose g m t =
        subst (λ (x : ℕ). Sub (bit_and (at m c) 511) x) (sym (at-up_to (λ k. loose_of p q (16 * f + k)) 0 16 k (omega arith)))
        (subst (λ (x : ℕ). Sub x (loose_of p q l)) here (union-at (λ i. bit_and (lane_at p l i) (lane_at q l i)) 9 i hi))
      where
        l : ℕ
        l = 16 * f + k

        c : ℕ
        c = unit_cell (9 * f + k) i

        p : List ℕ
        p = laid m

        q : List ℕ
        q = laid (doors_of g)

        door : at (doors_of g) (unit_cell (9 * f + k) i) ≡ 511
        door = at-up_to (λ c. cond (is_open g c) 511 0) 0 81 (unit_cell (9 * f + k) i) (cell_below (9 * f + k) i (omega arith) hi) ∙ cond-true (is_open g (unit_cell (9 * f + k) i)) 511 0 t

        here : bit_and (lane_at (laid m) (16 * f + k) i) (lane_at (laid (doors_of g)) (16 * f + k) i) ≡ bit_and (at m (unit_cell (9 * f + k) i)) 511
        here =
            ap (λ (x : ℕ). bit_and x (lane_at (laid (doors_of g)) (16 * f + k) i)) (lane-at m)
            ∙ ap (bit_and (bit_and (at m (unit_cell (9 * f + k) i)) 511)) (lane-at (doors_of g) ∙ ap (λ (x : ℕ). bit_and x 511) door)
            ∙ nine-small (bit_and (at m (unit_cell (9 * f + k) i)) 511) (omega (arith, and_le_r (at m (unit_cell (9 * f + k) i)) 511))

  pub lane-masks : (m : List ℕ) → lane_masks (laid m) (16 * f + k) ≡ nines (all_masks m (9 * f + k))
  unfolding lane_masks nines
  lane-masks m =
      map_same (lane_at (laid m) (16 * f + k)) (λ i. bit_and (at (all_masks m (9 * f + k)) i) 511) (up_to 9)
      (λ i h. let l = in-up_to 9 i h in lane-at i l m ∙ ap (λ (x : ℕ). bit_and x 511) (sym (all-mask m (9 * f + k) i (omega arith) l)))

-- ---- the lane of any unit

pub lane-holds : (u i : ℕ) → u < 27 → i < 9 → (m : List ℕ) → lane_at (laid m) (lane_of u) i ≡ bit_and (at m (unit_cell u i)) 511
lane-holds u i hu hi m =
    let e : 9 * (u / 9) + u % 9 ≡ u = omega arith in
    lane-at (u / 9) (u % 9) (omega arith) (omega arith) i hi m ∙ ap (λ (v : ℕ). bit_and (at m (unit_cell v i)) 511) e

pub unit_lane : (m : List ℕ) (u : ℕ) → u < 27 → lane_masks (laid m) (lane_of u) ≡ nines (all_masks m u)
unit_lane m u h =
    let e : 9 * (u / 9) + u % 9 ≡ u = omega arith in
    lane-masks (u / 9) (u % 9) (omega arith) (omega arith) m ∙ ap (λ (v : ℕ). nines (all_masks m v)) e

pub lane-reads : (p : List ℕ) (l i : ℕ) → i < 9 → at (lane_masks p l) i ≡ lane_at p l i
unfolding lane_masks
lane-reads p l i h = at-up_to (lane_at p l) 0 9 i h

-- sets that hold nothing together hold nothing each
pub none-joined : (sets : List ℕ) → joined_sets sets ≡ 0 → (k : ℕ) → k < 16 → at sets k ≡ 0
unfolding joined_sets
none-joined sets e k h = union-none (at sets) 16 e k h
