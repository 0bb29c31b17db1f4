-- Cross does nothing at a digit whose lane is not lively. Assumes nothing.
use mathlib.Core.Path.{◌≡◌, refl, sym, ap, ◌∙◌, subst}
use mathlib.Core.Logic.{◌≢◌, inl, inr}
use mathlib.Core.Bool.{Bool, true, false, cond, not, ◌||◌, true≢false}
use mathlib.Core.List.{List}
use Prim.Native.Nat.{ℕ, ◌+◌, ◌*◌, ◌^◌, ◌<◌}
use native.Mathlib.Decide.{dec_lt}
use native.Mathlib.Nat.{zero-add}
use native.Mathlib.Omega.{arith}
use borrow.Author.Tests.{eq-eqb, ne_eqb}
use lib.Bits.{bit_and}
use lib.Dec.{eqb}
use Rattle.candidates.specs.Masks.{has, single, place_mask}
use Rattle.candidates.proofs.Held.{Held, none-held, held-ext, held-power, held_below, held-sub, held_all}
use Rattle.candidates.proofs.Tests.{cond-true, cond-false}
use Rattle.grid.specs.Units.{unit_cell, in_unit}
use Rattle.grid.proofs.Lists.{at-up_to, map_same}
use Rattle.steps.specs.Boards.{at, is_open}
use Rattle.steps.specs.Loops.{up_to}
use Rattle.steps.specs.Steps.{step_taken}
use Rattle.steps.proofs.Loops.{in-up_to, each_keeps}
use Rattle.steps.proofs.Losses.{held-unless}
use Rattle.cells.specs.code.Places.{held_places}
use Rattle.cells.proofs.HeldPlaces.{held_small, has-held, held_same}
use Rattle.cells.proofs.NineBits.{held-meet, not-held, nine-small, place_is}
use Rattle.cells.proofs.Shared.{union-at, union-held}
use Rattle.lanes.specs.code.Lanes.{laid, doors_of, lane_at, lane_masks, nines, loose_sets, joined_sets, Alike}
use Rattle.lanes.proofs.Families.{take-alike, digit-parted}
use Rattle.lanes.proofs.LaneUnits.{lane-at, in-loose}
use Rattle.lanes.proofs.Turns.{Parted}
use Rattle.pair_cross.specs.code.Twos.{first_of, second_of, FirstLine, frame_step, lines_taken, frame_taken, held_lines}
use Rattle.pair_cross.specs.code.Lively.{lively_of, lively_sets}
use Rattle.pair_cross.specs.code.Spots.{spots_of, open_places, DigitLanes, places_if, CrossSkips}
use Rattle.pair_cross.specs.declared.twos.Frame.TheVariants.{Lines}
use Rattle.pair_cross.proofs.FrameSpots.{door-open}
use Rattle.pair_cross.proofs.LivelyFrames.{frame-still}
use Rattle.pair_cross.proofs.Passed.{at_held}

-- whether a mask has a digit, as code asks it of many at once
tested : (x d : ℕ) → eqb (bit_and x (2 ^ d)) 0 ≡ not (has x d)
tested x d = go (has x d) refl
  where
    go : (t : Bool) → has x d ≡ t → eqb (bit_and x (2 ^ d)) 0 ≡ not t
    go true t = ne_eqb (bit_and x (2 ^ d)) 0 (λ e. none-held d (subst (λ (z : ℕ). Held z d) e ((held-meet x (2 ^ d) d).1 (t, (held-power d d).1 refl))))
    go false t = eq-eqb (bit_and x (2 ^ d)) 0 (not-held x d (λ h. true≢false (sym h ∙ t)))

asked : (x d : ℕ) → d < 9 → eqb (bit_and x (place_mask d)) 0 ≡ not (has x d)
asked x d h = ap (λ (y : ℕ). eqb (bit_and x y) 0) (place_is d h) ∙ tested x d

-- ---- the lines of a digit

module _ (m : List ℕ) (f l d : ℕ) (hf : f < 3) (hl : l < 9) (hd : d < 9) where
  at_place : ℕ → ℕ
  at_place i = cond (eqb (bit_and (lane_at (laid m) (16 * f + l) i) (place_mask d)) 0) 0 (place_mask i)

  -- a place of the lane, and of the unit
  holds : (i : ℕ) → i < 9 → has (lane_at (laid m) (16 * f + l) i) d ≡ has (held_places m (9 * f + l) d) i
  holds i hi =
      ap (λ (x : ℕ). has x d) (lane-at f l hf hl i hi m) ∙ nine (has (at m c) d) refl ∙ sym (has-held m (9 * f + l) d (omega arith) i hi)
    where
      c : ℕ
      c = unit_cell (9 * f + l) i

      nine : (t : Bool) → has (at m c) d ≡ t → has (bit_and (at m c) 511) d ≡ has (at m c) d
      nine true t = (held-meet (at m c) 511 d).1 (t, held_all d hd) ∙ sym t
      nine false t = none (has (bit_and (at m c) 511) d) refl ∙ sym t
        where
          none : (s : Bool) → has (bit_and (at m c) 511) d ≡ s → has (bit_and (at m c) 511) d ≡ false
          none true s = absurd (true≢false (sym ((held-meet (at m c) 511 d).0 s).0 ∙ t))
          none false s = s

  down : (e : ℕ) → Held (spots_of (laid m) (16 * f + l) (place_mask d)) e → Held (held_places m (9 * f + l) d) e
  unfolding spots_of at_place
  down e t =
      let w = union-held at_place 9 e t in
      by_place w.0 w.1 w.2 (has (lane_at (laid m) (16 * f + l) w.0) d) refl
    where
      by_place : (i : ℕ) → i < 9 → Held (at_place i) e → (s : Bool) → has (lane_at (laid m) (16 * f + l) i) d ≡ s → Held (held_places m (9 * f + l) d) e
      by_place i hi q true s =
          let o = subst (λ (z : ℕ). Held z e) (cond-false (eqb (bit_and (lane_at (laid m) (16 * f + l) i) (place_mask d)) 0) 0 (place_mask i) (asked (lane_at (laid m) (16 * f + l) i) d hd ∙ ap not s) ∙ place_is i hi) q in
          subst (λ (z : ℕ). Held (held_places m (9 * f + l) d) z) (sym ((held-power i e).0 o)) (sym (holds i hi) ∙ s)
      by_place i hi q false s =
          absurd (none-held e (subst (λ (z : ℕ). Held z e) (cond-true (eqb (bit_and (lane_at (laid m) (16 * f + l) i) (place_mask d)) 0) 0 (place_mask i) (asked (lane_at (laid m) (16 * f + l) i) d hd ∙ ap not s)) q))

  up : (e : ℕ) → Held (held_places m (9 * f + l) d) e → Held (spots_of (laid m) (16 * f + l) (place_mask d)) e
  unfolding spots_of at_place
  up e t =
      let h : e < 9 = held_below (held_places m (9 * f + l) d) 9 e (held_small m (9 * f + l) d) t in
      held-sub e (union-at at_place 9 e h)
      (subst (λ (z : ℕ). Held z e) (sym (cond-false (eqb (bit_and (lane_at (laid m) (16 * f + l) e) (place_mask d)) 0) 0 (place_mask e) (asked (lane_at (laid m) (16 * f + l) e) d hd ∙ ap not (holds e h ∙ t)) ∙ place_is e h)) ((held-power e e).1 refl))

  spots-are : spots_of (laid m) (16 * f + l) (place_mask d) ≡ held_places m (9 * f + l) d
  spots-are = held-ext (spots_of (laid m) (16 * f + l) (place_mask d)) (held_places m (9 * f + l) d) (λ e. (down e, up e))

-- nine lines of places
nine-line : (m : List ℕ) (f d l : ℕ) → l < 9 → bit_and (at (held_lines m f d) l) 511 ≡ held_places m (f + l) d
nine-line m f d l hl = ap (λ (x : ℕ). bit_and x 511) (at_held m f d l hl) ∙ nine-small (held_places m (f + l) d) (held_small m (f + l) d)

digit-lines : (m q : List ℕ) (f d : ℕ) → f < 3 → d < 9 → DigitLanes (laid m) (16 * f) q → lane_masks q d ≡ nines (held_lines m (9 * f) d)
unfolding lane_masks nines
digit-lines m q f d hf hd w =
    map_same (lane_at q d) (λ l. bit_and (at (held_lines m (9 * f) d) l) 511) (up_to 9)
    (λ l k. let hl = in-up_to 9 l k in
    w.spots l d hl (omega arith) ∙ spots-are m f l d hf hl hd ∙ sym (nine-line m (9 * f) d l hl))

-- ---- digits whose sets hold nothing

pub first-line : (half : ℕ) → half < 2 → FirstLine (9 * half)
first-line half h = go (dec_lt half 1)
  where
    go : Dec (half < 1) → FirstLine (9 * half)
    go (yes k) = inl (omega arith)
    go (no k) = inr (omega arith)

lines_same : (m n : List ℕ) (f d : ℕ) → f < 3 → Alike d n m → held_lines n (9 * f) d ≡ held_lines m (9 * f) d
unfolding held_lines
lines_same m n f d hf s =
    map_same (λ l. held_places n (9 * f + l) d) (λ l. held_places m (9 * f + l) d) (up_to 9)
    (λ l k. let hl = in-up_to 9 l k in held_same n m (9 * f + l) d (omega arith) (λ i hi. s.at (unit_cell (9 * f + l) i)))

-- the lines of a digit, as its lane has them
pub cross-lines : {m p q : List ℕ} (half d : ℕ) → half < 2 → d < 9 → p ≡ laid m → DigitLanes p (16 * half) q → (n : List ℕ) → Alike d n m → {lines : List ℕ} → lines ≡ lane_masks q d → lines ≡ nines (held_lines n (9 * half) d)
cross-lines {m} {p} {q} half d h hd is-laid w n s e = e ∙ digit-lines m q half d (omega arith) hd (subst (λ (z : List ℕ). DigitLanes z (16 * half) q) is-laid w) ∙ ap nines (sym (lines_same m n half d (omega arith) s))

-- the open places, which are the same for each digit
pub cross-doors : (g : List ℕ) (half d : ℕ) → half < 2 → d < 9 → {q doors : List ℕ} → q ≡ laid (doors_of g) → doors ≡ open_places q (16 * half) → doors ≡ nines (held_lines (doors_of g) (9 * half) d)
unfolding open_places nines
cross-doors g half d h hd is-laid e =
    e ∙ ap (λ (z : List ℕ). open_places z (16 * half)) is-laid
    ∙ map_same (λ l. spots_of (laid (doors_of g)) (16 * half + l) 1) (λ l. bit_and (at (held_lines (doors_of g) (9 * half) d) l) 511) (up_to 9)
    (λ l k. let hl = in-up_to 9 l k in ap (spots_of (laid (doors_of g)) (16 * half + l)) (sym (place_is 0 (omega arith))) ∙ spots-are (doors_of g) half l 0 (omega arith) hl (omega arith) ∙ each-digit l hl ∙ sym (nine-line (doors_of g) (9 * half) d l hl))
  where
    each-digit : (l : ℕ) → l < 9 → held_places (doors_of g) (9 * half + l) 0 ≡ held_places (doors_of g) (9 * half + l) d
    each-digit l hl = held-ext (held_places (doors_of g) (9 * half + l) 0) (held_places (doors_of g) (9 * half + l) d) (λ c. (one 0 d (omega arith) hd c, one d 0 hd (omega arith) c))
      where
        one : (a b : ℕ) → a < 9 → b < 9 → (c : ℕ) → Held (held_places (doors_of g) (9 * half + l) a) c → Held (held_places (doors_of g) (9 * half + l) b) c
        one a b ha hb c t =
            let hc = held_below (held_places (doors_of g) (9 * half + l) a) 9 c (held_small (doors_of g) (9 * half + l) a) t in
            door-open g (Lines (9 * half) b) (first-line half h, hb) l c hl hc ∙ sym (door-open g (Lines (9 * half) a) (first-line half h, ha) l c hl hc) ∙ t

module _ (g m q : List ℕ) (half held : ℕ) (h : half < 2) (digits : DigitLanes (laid m) (16 * half) q) (is_held_lem : held ≡ joined_sets (loose_sets (laid m) (laid (doors_of g)) (16 * half))) where
  pub cross-skips : CrossSkips g m half (lively_sets q (places_if held) 0)
  unfolding lively_sets
  cross-skips = record { idle = skip }
    where
      loose : List ℕ
      loose = loose_sets (laid m) (laid (doors_of g)) (16 * half)

      -- what an open cell holds can be lost
      in_held : (l c d : ℕ) → l < 9 → c < 9 → d < 9 → is_open g (unit_cell (9 * half + l) c) ≡ true → Held (at m (unit_cell (9 * half + l) c)) d → Held held d
      in_held l c d hl hc hd op t =
          unfold joined_sets in
          subst (λ (x : ℕ). Held x d) (sym is_held_lem)
          (held-sub d (union-at (at (loose_sets (laid m) (laid (doors_of g)) (16 * half))) 16 l (omega arith))
          (held-sub d (in-loose half l (omega arith) hl c hc g m op) ((held-meet (at m (unit_cell (9 * half + l) c)) 511 d).1 (t, held_all d hd))))

      free-at : (d c : ℕ) → d < 9 → c < 9 → Held held d → Held (at (places_if held) d) c
      free-at d c hd hc t =
          unfold places_if in
          subst (λ (x : ℕ). Held x c) (sym (at-up_to (λ d. cond (eqb (bit_and held (place_mask d)) 0) 0 511) 0 16 d (omega arith) ∙ cond-false (eqb (bit_and held (place_mask d)) 0) 0 511 (asked held d hd ∙ ap not t))) (held_all c hc)

      skip : (d : ℕ) → d < 9 → at (lively_sets q (places_if held) 0) d ≡ 0 → (n : List ℕ) → Alike d n m → frame_taken g (Lines (9 * half) d) n ≡ n
      skip d hd e n s =
          frame-still g n (Lines (9 * half) d) (first-line half h, hd) (at (places_if held) d)
          (λ l c hl hc op t. free-at d c hd hc (in_held l c d hl hc hd op (sym (s.at (unit_cell (9 * half + l) c)) ∙ t)))
          (ap (λ (z : List ℕ). lively_of (at z) (at (places_if held) d)) (ap nines (lines_same m n half d (omega arith) s) ∙ sym (digit-lines m q half d (omega arith) hd digits) ∙ ap (lane_masks q) (sym (zero-add d)))
          ∙ sym (at-up_to (λ k. lively_of (at (lane_masks q (0 + k))) (at (places_if held) k)) 0 16 d (omega arith)) ∙ e)

-- as code finds the sets
pub cross-skipped : (g m : List ℕ) (half : ℕ) → half < 2 → {q p loose digits free due : List ℕ} {held : ℕ} → q ≡ laid (doors_of g) → p ≡ laid m → loose ≡ loose_sets p q (16 * half) → held ≡ joined_sets loose
    → DigitLanes p (16 * half) digits → free ≡ places_if held → due ≡ lively_sets digits free 0 → CrossSkips g m half due
cross-skipped g m half h {q} {p} {loose} {digits} {free} {due} {held} doors masks a b d e f =
    subst (CrossSkips g m half) (sym (f ∙ ap (λ (z : List ℕ). lively_sets digits z 0) e))
    (cross-skips g m digits half held h (subst (λ (z : List ℕ). DigitLanes z (16 * half) digits) masks d)
    (b ∙ ap joined_sets (a ∙ ap (λ (z : List ℕ). loose_sets p z (16 * half)) doors ∙ ap (λ (z : List ℕ). loose_sets z (laid (doors_of g)) (16 * half)) masks)))

-- its steps lose one digit alone
pub cross-parted : (g : List ℕ) (f : ℕ) → Parted Alike (λ d. frame_taken g (Lines f d))
cross-parted g f = digit-parted (λ d. frame_taken g (Lines f d)) kept
  where
    one : (i p q e v : ℕ) → Held ((frame_step (Lines f i) (first_of p) (second_of p) (first_of q) (second_of q)).loses e) v → v ≡ i
    one i p q e v t = (held-power i v).0 ((held-unless (in_unit (f + first_of p) e || in_unit (f + second_of p) e) (single i) v).0 t).1

    lines : (i j : ℕ) → j ≢ i → (p : ℕ) (n : List ℕ) (c : ℕ) → has (at (lines_taken g (Lines f i) (first_of p) (second_of p) n) c) j ≡ has (at n c) j
    lines i j other p n c =
        unfold lines_taken in
        each_keeps (λ q. step_taken (is_open g) (frame_step (Lines f i) (first_of p) (second_of p) (first_of q) (second_of q))) (λ (o : List ℕ). has (at o c) j ≡ has (at n c) j) (up_to 36)
        (λ q k o r. take-alike (is_open g) (frame_step (Lines f i) (first_of p) (second_of p) (first_of q) (second_of q)) i j other (one i p q) o c ∙ r) n refl

    kept : (i j : ℕ) → j ≢ i → (m : List ℕ) (c : ℕ) → has (at (frame_taken g (Lines f i) m) c) j ≡ has (at m c) j
    kept i j other m c =
        unfold frame_taken in
        each_keeps (λ p. lines_taken g (Lines f i) (first_of p) (second_of p)) (λ (n : List ℕ). has (at n c) j ≡ has (at m c) j) (up_to 36) (λ p k n r. lines i j other p n c ∙ r) m refl
