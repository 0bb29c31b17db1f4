-- Place does nothing at a unit of whose lane nothing is due. Assumes nothing.
use mathlib.Core.Path.{◌≡◌, refl, sym, ap, ◌∙◌, subst}
use mathlib.Core.Logic.{⊎_elim}
use mathlib.Core.Bool.{Bool, true, false}
use mathlib.Core.List.Memᴰ
use mathlib.Core.List.{List, Memᴰ}
use Prim.Native.Nat.{ℕ, ◌+◌, ◌*◌, ◌<◌}
use native.Mathlib.Omega.{arith}
use borrow.Author.Tests.{eqb-true}
use lib.Bits.{bit_and}
use lib.Dec.{eqb}
use Rattle.candidates.specs.Masks.{has, minus, single, Sub}
use Rattle.candidates.proofs.Held.{none-held, has-none, held-ext, held-minus}
use Rattle.candidates.proofs.Order.{sub-antisym, sub-none}
use Rattle.candidates.proofs.Tests.{by-test, cond-false}
use Rattle.grid.specs.Units.{unit, unit_cell}
use Rattle.grid.proofs.Lists.{at-up_to, map_same}
use Rattle.grid.proofs.Units.{cell_below, at_place, member-mem}
use Rattle.steps.specs.Boards.{at, is_open}
use Rattle.steps.specs.Instances.{place, step_of}
use Rattle.steps.specs.Loops.{each, up_to}
use Rattle.steps.specs.Passes.{Place, instance_taken, pass}
use Rattle.steps.specs.Steps.{lose_at}
use Rattle.steps.proofs.Loops.{in-up_to, each-idle, each_keeps}
use Rattle.steps.proofs.Steps.{lose-none}
use Rattle.cells.specs.code.Places.{mask_at, all_masks, held_places}
use Rattle.cells.proofs.NineBits.{held-meet}
use Rattle.cells.proofs.Places.{mask_at_lem}
use Rattle.lanes.specs.code.Lanes.{laid, doors_of, lane_masks, nines, loose_sets, SameOn, Skips}
use Rattle.lanes.proofs.Families.{families, take-off, unit-parted}
use Rattle.lanes.proofs.LaneUnits.{lane-masks, in-loose}
use Rattle.lanes.proofs.Turns.{Parted}
use Rattle.lone_place.specs.code.Turns.{place_turn, place_digit, place_unit}
use Rattle.lone_place.specs.code.Due.{due_of, place_due, place_sets, place_turn_of, place_family, PlaceSpares}
use Rattle.lone_place.proofs.PlaceDue.{nine-not-due}
use Rattle.lone_place.proofs.PlaceTurns.{place-digit, place-pass}

-- masks that agree on a unit
all_same : (n m : List ℕ) (u : ℕ) → u < 27 → SameOn u n m → all_masks n u ≡ all_masks m u
unfolding all_masks
all_same n m u h s =
    map_same (λ i. mask_at n (unit_cell u i)) (λ i. mask_at m (unit_cell u i)) (up_to 9)
    (λ i k. let l = in-up_to 9 i k in let c = cell_below u i h l in mask_at_lem n (unit_cell u i) c ∙ s.at i l ∙ sym (mask_at_lem m (unit_cell u i) c))

-- open cells without any of the nine digits lose nothing
empty-idle : (g m : List ℕ) (u d : ℕ) → u < 27 → d < 9 → ((i : ℕ) → i < 9 → is_open g (unit_cell u i) ≡ true → bit_and (at m (unit_cell u i)) 511 ≡ 0) → place_digit g u d m ≡ m
empty-idle g m u d h l none = place-digit g u d h l m ∙ each-idle (place_turn g u d (held_places m u d)) (up_to 9) m (λ i o. turn i (in-up_to 9 i o))
  where
    lost : (x : ℕ) → bit_and x 511 ≡ 0 → bit_and x (minus 511 (single d)) ≡ 0
    lost x e =
        held-ext (bit_and x (minus 511 (single d))) 0
        (λ v. (λ t. let w = (held-meet x (minus 511 (single d)) v).0 t in subst (λ (z : ℕ). has z v ≡ true) e ((held-meet x 511 v).1 (w.0, ((held-minus 511 (single d) v).0 w.1).0)), λ t. absurd (none-held v t)))

    turn : (i : ℕ) → i < 9 → place_turn g u d (held_places m u d) i m ≡ m
    turn i l =
        unfold place_turn in
        by-test (λ (n : List ℕ). n ≡ m) (eqb (minus (held_places m u d) (single i)) 0) (lose_at (is_open g) (unit_cell u i) (minus 511 (single d)) m) m
        (λ t. lose-none (is_open g) (unit_cell u i) (minus 511 (single d)) m (λ f. lost (at m (unit_cell u i)) (none i l f))) (λ t. refl)

place-spares : (g m : List ℕ) (f : ℕ) → f < 3 → PlaceSpares g m f (place_sets (laid m) (loose_sets (laid m) (laid (doors_of g)) (16 * f)) (16 * f))
unfolding place_sets
place-spares g m f hf = record { of = λ k hk n s. record { idle = λ d l t. spare k hk n s d l t } }
  where
    spare : (k : ℕ) → k < 9 → (n : List ℕ) → SameOn (9 * f + k) n m → (d : ℕ) → d < 9 → has (at (place_sets (laid m) (loose_sets (laid m) (laid (doors_of g)) (16 * f)) (16 * f)) k) d ≡ false → place_digit g (9 * f + k) d n ≡ n
    spare k hk n s d l e = go (eqb (at (loose_sets (laid m) (laid (doors_of g)) (16 * f)) k) 0) refl
      where
        is : has (place_due (lane_masks (laid m) (16 * f + k)) (at (loose_sets (laid m) (laid (doors_of g)) (16 * f)) k)) d ≡ false
        is = sym (ap (λ (x : ℕ). has x d) (at-up_to (λ k. place_due (lane_masks (laid m) (16 * f + k)) (at (loose_sets (laid m) (laid (doors_of g)) (16 * f)) k)) 0 16 k (omega arith))) ∙ e

        go : (t : Bool) → eqb (at (loose_sets (laid m) (laid (doors_of g)) (16 * f)) k) 0 ≡ t → place_digit g (9 * f + k) d n ≡ n
        go true t =
            empty-idle g n (9 * f + k) d (omega arith) l
            (λ i o op. ap (λ (x : ℕ). bit_and x 511) (s.at i o)
            ∙ sub-antisym (subst (λ (x : ℕ). Sub (bit_and (at m (unit_cell (9 * f + k) i)) 511) x) (eqb-true (at (loose_sets (laid m) (laid (doors_of g)) (16 * f)) k) 0 t) (in-loose f k hf hk i o g m op)) (sub-none (bit_and (at m (unit_cell (9 * f + k) i)) 511)))
        go false t =
            nine-not-due g n (9 * f + k) d (omega arith) l
            (ap (λ (z : List ℕ). has (due_of (nines z)) d) (all_same n m (9 * f + k) (omega arith) s) ∙ ap (λ (z : List ℕ). has (due_of z) d) (sym (lane-masks f k hf hk m))
            ∙ sym (ap (λ (x : ℕ). has x d) (cond-false (eqb (at (loose_sets (laid m) (laid (doors_of g)) (16 * f)) k) 0) 0 (due_of (lane_masks (laid m) (16 * f + k))) t)) ∙ is)

-- as code finds the sets
pub place-spared : (g m : List ℕ) (f : ℕ) → f < 3 → {q p free due : List ℕ} → q ≡ laid (doors_of g) → p ≡ laid m → free ≡ loose_sets p q (16 * f) → due ≡ place_sets p free (16 * f) → PlaceSpares g m f due
place-spared g m f hf {q} {p} {free} {due} doors lanes a b =
    subst (PlaceSpares g m f)
    (sym (b ∙ ap (λ (z : List ℕ). place_sets p z (16 * f)) (a ∙ ap (λ (z : List ℕ). loose_sets p z (16 * f)) doors) ∙ ap (λ (z : List ℕ). place_sets z (loose_sets z (laid (doors_of g)) (16 * f)) (16 * f)) lanes))
    (place-spares g m f hf)

-- where a set holds nothing, the turn of its unit is idle
pub spares-skips : {g m due : List ℕ} {f : ℕ} → PlaceSpares g m f due → Skips (λ k. SameOn (9 * f + k)) (place_turn_of g f) due m
spares-skips {g} {m} {due} {f} w = record {
  idle = λ k h e n s.
      unfold place_unit in
      each-idle (place_digit g (9 * f + k)) (up_to 9) n (λ d o. (w.of k h n s).idle d (in-up_to 9 d o) (ap (λ (x : ℕ). has x d) e ∙ has-none d));
}

pub place-families : (g m : List ℕ) → pass g Place m ≡ each (place_family g) (up_to 3) m
unfolding place_family
place-families g m = place-pass g m ∙ families (place_unit g) m

-- its steps hit no cell outside the unit
pub place-parted : (g : List ℕ) (f : ℕ) → f < 3 → Parted (λ k. SameOn (9 * f + k)) (λ k. place_unit g (9 * f + k))
place-parted g f hf = unit-parted (place_unit g) off f hf
  where
    off : (u : ℕ) → u < 27 → (m : List ℕ) (e : ℕ) → (Memᴰ e (unit u) → ⊥) → at (place_unit g u m) e ≡ at m e
    off u h m e out =
        unfold place_unit in
        each_keeps (place_digit g u) (λ (n : List ℕ). at n e ≡ at m e) (up_to 9) (λ d k n q. digit d n ∙ q) m refl
      where
        step : (d i : ℕ) → i < 9 → (n : List ℕ) → at (instance_taken g (place u d i) n) e ≡ at n e
        step d i l n =
            unfold step_of in
            take-off (is_open g) (step_of (place u d i)) n e
            (λ w. ⊎_elim (λ q. out (subst (λ (x : ℕ). Memᴰ x (unit u)) (sym q) (member-mem h (at_place u i l)))) (λ r. Memᴰ.not-nil r) (Memᴰ.cases_cons w))

        digit : (d : ℕ) (n : List ℕ) → at (place_digit g u d n) e ≡ at n e
        digit d n =
            unfold place_digit in
            each_keeps (λ i. instance_taken g (place u d i)) (λ (o : List ℕ). at o e ≡ at n e) (up_to 9) (λ i k o q. step d i (in-up_to 9 i k) o ∙ q) n refl
