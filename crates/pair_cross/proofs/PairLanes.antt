-- Pair does nothing at a unit whose lane is not lively. Assumes nothing.
use mathlib.Core.Path.{◌≡◌, refl, sym, ap, ◌∙◌, subst}
use mathlib.Core.List.{List, Memᴰ}
use Prim.Native.Nat.{ℕ, ◌+◌, ◌*◌, ◌<◌}
use native.Mathlib.Omega.{arith}
use Rattle.candidates.proofs.Held.{Held, held-sub, held_all}
use Rattle.grid.specs.Units.{unit, unit_cell}
use Rattle.grid.proofs.Lists.{at-up_to, map_same}
use Rattle.grid.proofs.Units.{cell_below}
use Rattle.steps.specs.Boards.{at, is_open}
use Rattle.steps.specs.Loops.{each, up_to}
use Rattle.steps.specs.Passes.{pass, Pair}
use Rattle.steps.specs.Steps.{step_taken}
use Rattle.steps.proofs.Loops.{in-up_to, each_keeps}
use Rattle.cells.specs.code.Places.{mask_at, all_masks}
use Rattle.cells.proofs.NineBits.{held-meet}
use Rattle.cells.proofs.Places.{mask_at_lem}
use Rattle.lanes.specs.code.Lanes.{laid, doors_of, lane_masks, nines, loose_sets, SameOn, Skips}
use Rattle.lanes.proofs.LaneUnits.{lane-masks, in-loose}
use Rattle.lanes.proofs.Families.{families, take-off, unit-parted}
use Rattle.lanes.proofs.Turns.{Parted}
use Rattle.pair_cross.specs.code.Twos.{first_of, second_of, frame_step, lines_taken, frame_taken}
use Rattle.pair_cross.specs.code.Lively.{lively_of, lively_sets, pair_family, PairSkips}
use Rattle.pair_cross.specs.declared.twos.Frame.TheVariants.{Unit}
use Rattle.pair_cross.proofs.FramePasses.{pair-pass}
use Rattle.pair_cross.proofs.LivelyFrames.{frame-still}

-- masks that agree on a unit
all_same : (n m : List ℕ) (u : ℕ) → u < 27 → SameOn u n m → all_masks n u ≡ all_masks m u
unfolding all_masks
all_same n m u h s =
    map_same (λ i. mask_at n (unit_cell u i)) (λ i. mask_at m (unit_cell u i)) (up_to 9)
    (λ i k. let l = in-up_to 9 i k in let c = cell_below u i h l in mask_at_lem n (unit_cell u i) c ∙ s.at i l ∙ sym (mask_at_lem m (unit_cell u i) c))

pub pair-skips : (g m : List ℕ) (f : ℕ) → f < 3
    → Skips (λ k. SameOn (9 * f + k)) (λ k. frame_taken g (Unit (9 * f + k))) (lively_sets (laid m) (loose_sets (laid m) (laid (doors_of g)) (16 * f)) (16 * f)) m
unfolding lively_sets
pair-skips g m f hf = record { idle = skip }
  where
    skip : (k : ℕ) → k < 9 → at (lively_sets (laid m) (loose_sets (laid m) (laid (doors_of g)) (16 * f)) (16 * f)) k ≡ 0 → (n : List ℕ) → SameOn (9 * f + k) n m → frame_taken g (Unit (9 * f + k)) n ≡ n
    skip k hk e n s =
        frame-still g n (Unit u) (omega arith) free
        (λ l c hl hc op t. held-sub c (in-loose f k hf hk l hl g m op) ((held-meet (at m (unit_cell u l)) 511 c).1 (subst (λ (z : ℕ). Held z c) (s.at l hl) t, held_all c hc)))
        (ap (λ (z : List ℕ). lively_of (at z) free) (ap nines (all_same n m u (omega arith) s) ∙ sym (lane-masks f k hf hk m))
        ∙ sym (at-up_to (λ k. lively_of (at (lane_masks (laid m) (16 * f + k))) (at (loose_sets (laid m) (laid (doors_of g)) (16 * f)) k)) 0 16 k (omega arith)) ∙ e)
      where
        u : ℕ
        u = 9 * f + k

        free : ℕ
        free = at (loose_sets (laid m) (laid (doors_of g)) (16 * f)) k

-- as code finds the sets
pub pair-skipped : (g m : List ℕ) (f : ℕ) → f < 3 → {q p free due : List ℕ} → q ≡ laid (doors_of g) → p ≡ laid m → free ≡ loose_sets p q (16 * f) → due ≡ lively_sets p free (16 * f) → PairSkips g m f due
pair-skipped g m f hf {q} {p} {free} {due} doors masks a b =
    subst (PairSkips g m f)
    (sym (b ∙ ap (λ (z : List ℕ). lively_sets p z (16 * f)) (a ∙ ap (λ (z : List ℕ). loose_sets p z (16 * f)) doors) ∙ ap (λ (z : List ℕ). lively_sets z (loose_sets z (laid (doors_of g)) (16 * f)) (16 * f)) masks))
    (pair-skips g m f hf)

-- the lines and the doors of a unit, as its lanes have them
pub pair-lines : (g m : List ℕ) {q p : List ℕ} (f k : ℕ) → f < 3 → k < 9 → q ≡ laid (doors_of g) → p ≡ laid m → (n : List ℕ) → SameOn (9 * f + k) n m → {doors lines : List ℕ} → doors ≡ lane_masks q (16 * f + k) → lines ≡ lane_masks p (16 * f + k)
    → (doors ≡ nines (all_masks (doors_of g) (9 * f + k))) × (lines ≡ nines (all_masks n (9 * f + k)))
pair-lines g m f k hf hk w v n s a b = (
  a ∙ ap (λ (z : List ℕ). lane_masks z (16 * f + k)) w ∙ lane-masks f k hf hk (doors_of g),
  b ∙ ap (λ (z : List ℕ). lane_masks z (16 * f + k)) v ∙ lane-masks f k hf hk m ∙ ap nines (sym (all_same n m (9 * f + k) (omega arith) s)),
)

pub pair-families : (g m : List ℕ) → pass g Pair m ≡ each (pair_family g) (up_to 3) m
unfolding pair_family
pair-families g m = pair-pass g m ∙ families (λ u. frame_taken g (Unit u)) m

-- its steps hit no cell outside the unit
pub pair-parted : (g : List ℕ) (f : ℕ) → f < 3 → Parted (λ k. SameOn (9 * f + k)) (λ k. frame_taken g (Unit (9 * f + k)))
pair-parted g f hf = unit-parted (λ u. frame_taken g (Unit u)) off f hf
  where
    off : (u : ℕ) → u < 27 → (m : List ℕ) (e : ℕ) → (Memᴰ e (unit u) → ⊥) → at (frame_taken g (Unit u) m) e ≡ at m e
    off u h m e out =
        unfold frame_taken in
        each_keeps (λ p. lines_taken g (Unit u) (first_of p) (second_of p)) (λ (n : List ℕ). at n e ≡ at m e) (up_to 36)
        (λ p k n q. lines p n ∙ q) m refl
      where
        lines : (p : ℕ) (n : List ℕ) → at (lines_taken g (Unit u) (first_of p) (second_of p) n) e ≡ at n e
        lines p n =
            unfold lines_taken in
            each_keeps (λ q. step_taken (is_open g) (frame_step (Unit u) (first_of p) (second_of p) (first_of q) (second_of q))) (λ (o : List ℕ). at o e ≡ at n e) (up_to 36)
            (λ q k o r. take-off (is_open g) (frame_step (Unit u) (first_of p) (second_of p) (first_of q) (second_of q)) o e out ∙ r) n refl
