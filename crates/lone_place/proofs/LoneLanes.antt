-- Lone over lanes: the sets of lanes cover what two cells of a unit hold, a row of which no cell is due is idle, and so is the pass where no open cell holds anything. Assumes nothing.
use mathlib.Core.Path.{◌≡◌, refl, sym, ap, ◌∙◌, subst}
use mathlib.Core.Bool.{Bool, true, false, cond}
use mathlib.Core.List.{List, Memᴰ}
use Prim.Native.Nat.{ℕ, ◌+◌, ◌*◌, ◌/◌, ◌<◌}
use native.Mathlib.Omega.{arith}
use Rattle.candidates.specs.Masks.{has, union, Sub}
use Rattle.candidates.proofs.Held.{Held, held-sub}
use Rattle.candidates.proofs.Order.{sub-antisym, sub-none}
use Rattle.grid.specs.Cells.{row, col, box, peers}
use Rattle.grid.specs.Units.{unit_cell}
use Rattle.grid.proofs.Cells.{peer-sees, sees-shared, cell-lt, box_of_lem}
use Rattle.grid.proofs.Lists.{at-up_to}
use Rattle.grid.proofs.Units.{member-in}
use Rattle.steps.specs.Boards.{at, Under}
use Rattle.steps.specs.Loops.{each, up_to}
use Rattle.steps.specs.Passes.{Lone, pass}
use Rattle.steps.proofs.Loops.{in-up_to, each-idle, each_keeps}
use Rattle.steps.proofs.Masks.{under-refl, under-trans}
use Rattle.cells.specs.code.Places.{all_masks, loose_digits}
use Rattle.cells.specs.code.Unions.{shared_of}
use Rattle.cells.proofs.Places.{all-mask}
use Rattle.cells.proofs.Shared.{union-at, twice-shared, loose_none}
use Rattle.lanes.specs.code.Lanes.{laid, lane_masks, nines, lane_of}
use Rattle.lanes.proofs.LaneUnits.{unit_lane}
use Rattle.lone_place.specs.code.Turns.{lone_cell, lone_row}
use Rattle.lone_place.specs.code.Due.{around, shared_lanes, Covers, near_row, Near, NearRow, due_flag, due_row}
use Rattle.lone_place.proofs.Peers.{in-around}
use Rattle.lone_place.proofs.LoneDue.{lone-under, near-under, no-loss, not-due}
use Rattle.lone_place.proofs.PlaceDue.{held-nine}
use Rattle.lone_place.proofs.Taking.{lone-pass}

-- ---- the sets

pub sets-cover : (m : List ℕ) → Covers (shared_lanes (laid m)) m
unfolding shared_lanes
sets-cover m = record {
  holds = λ u i j d h l n o r p q.
      ap (λ (x : ℕ). has x d) (at-up_to (λ k. shared_of (lane_masks (laid m) k)) 0 48 (lane_of u) (omega arith) ∙ ap shared_of (unit_lane m u h))
      ∙ twice-shared (nines (all_masks m u)) d i j l n r (held m u d h o i l p) (held m u d h o j n q);
}
  where
    held : (m : List ℕ) (u d : ℕ) → u < 27 → d < 9 → (i : ℕ) → i < 9 → Held (at m (unit_cell u i)) d → Held (at (nines (all_masks m u)) i) d
    held m u d h o i l p = held-nine (all_masks m u) d o i l (ap (λ (x : ℕ). has x d) (all-mask m u i h l) ∙ p)

pub covers-under : {s m n : List ℕ} → Under n m → Covers s m → Covers s n
covers-under below c = record { holds = λ u i j d h l n o r p q. c.holds u i j d h l n o r (held-sub d (below.at (unit_cell u i)) p) (held-sub d (below.at (unit_cell u j)) q) }

-- ---- what is near a cell

-- by the sets of the cell's units
abbrev shared_near : List ℕ → ℕ → ℕ
shared_near s c = around (λ u. at s (lane_of u)) c

covers-near : (s : List ℕ) (c : ℕ) → c < 81 → {m : List ℕ} → Covers s m → Near m c (shared_near s c)
covers-near s c h {m} w = record { holds = go }
  where
    go : (e d : ℕ) → Memᴰ e (peers c) → d < 9 → Held (at m c) d → Held (at m e) d → Held (shared_near s c) d
    go e d k l p q =
        let v = peer-sees c e k in
        let y = sees-shared c e h v.0 v.1 in
        let i = y.first in
        let j = y.second in
        held-sub d (in-around (λ u. at s (lane_of u)) c y.shared y.within (member-in y.within i))
        (w.holds y.shared i.place j.place d y.within i.within j.within l (λ z. y.different (sym i.is ∙ ap (unit_cell y.shared) z ∙ j.is))
        (ap (λ (x : ℕ). has (at m x) d) i.is ∙ p) (ap (λ (x : ℕ). has (at m x) d) j.is ∙ q))

-- as code finds it, for the cells of a row
pub covers-row : (s : List ℕ) {m : List ℕ} (r : ℕ) → r < 9 → Covers s m → NearRow m r (near_row s r)
unfolding near_row
covers-row s {m} r h w = record { cell = λ k l. subst (Near m (9 * r + k)) (sym (is k l)) (covers-near s (9 * r + k) (cell-lt r k h l) w) }
  where
    of-box : (b : ℕ) → b < 9 → lane_of (18 + b) ≡ 32 + b
    of-box b l = omega arith

    is : (k : ℕ) → k < 9 → at (near_row s r) k ≡ shared_near s (9 * r + k)
    is k l =
        let in_row : lane_of (row (9 * r + k)) ≡ r = omega arith in
        let in-col : lane_of (9 + col (9 * r + k)) ≡ 16 + k = omega arith in
        let band : r / 3 < 3 = omega arith in
        let stack : k / 3 < 3 = omega arith in
        let in-box : lane_of (18 + box (9 * r + k)) ≡ 32 + 3 * (r / 3) + k / 3 = ap (λ (x : ℕ). lane_of (18 + x)) (box_of_lem r k l) ∙ of-box (3 * (r / 3) + k / 3) (omega arith) ∙ omega arith in
        at-up_to (λ k. union (union (at s r) (at s (16 + k))) (at s (32 + 3 * (r / 3) + k / 3))) 0 16 k (omega arith) ∙ rw (in_row, in-col, in-box)

pub row-near-under : {m n : List ℕ} {r : ℕ} {near : List ℕ} → Under n m → NearRow m r near → NearRow n r near
row-near-under below w = record { cell = λ k l. near-under below (w.cell k l) }

-- ---- rows

pub row_under : (g : List ℕ) (r : ℕ) (m : List ℕ) → Under (lone_row g r m) m
unfolding lone_row
row_under g r m = each_keeps (λ k. lone_cell g (9 * r + k)) (λ (n : List ℕ). Under n m) (up_to 9) (λ k l n p. under-trans (lone-under g (9 * r + k) n) p) m (under-refl m)

pub row-idle : (g m : List ℕ) (r : ℕ) (near : List ℕ) → NearRow m r near → due_row m near r ≡ 0 → lone_row g r m ≡ m
unfolding lone_row due_row
row-idle g m r near w e =
    each-idle (λ k. lone_cell g (9 * r + k)) (up_to 9) m (λ k o. let l = in-up_to 9 k o in not-due g m (9 * r + k) (at near k) (w.cell k l) (unset _ (none k l)))
  where
    none : (k : ℕ) → k < 9 → due_flag (at m (9 * r + k)) (at near k) ≡ 0
    none k l =
        sub-antisym (subst (Sub (due_flag (at m (9 * r + k)) (at near k))) e (union-at (λ k. due_flag (at m (9 * r + k)) (at near k)) 9 k l)) (sub-none (due_flag (at m (9 * r + k)) (at near k)))

    unset : (t : Bool) → ◌≡◌ {A = ℕ} (cond t 1 0) 0 → t ≡ false
    unset true e = absurd (omega arith)
    unset false e = refl

pub lone-rows : (g m : List ℕ) → pass g Lone m ≡ each (lone_row g) (up_to 9) m
unfolding each lone_row
lone-rows g m = lone-pass g m

-- ---- nothing to lose

pub lone-idle : (g m : List ℕ) → loose_digits g m ≡ 0 → pass g Lone m ≡ m
lone-idle g m e =
    lone-pass g m
    ∙ each-idle (lone_cell g) (up_to 81) m (λ c k. unfold lone_cell in each-idle _ (up_to 9) m (λ d l. no-loss g m c d (λ t x s free. loose_none g m e x d (peer-sees c x s).0 (in-up_to 9 d l) free)))
