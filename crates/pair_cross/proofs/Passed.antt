-- Two lines of a frame are passed over: no step of theirs loses anything. Assumes nothing.
use mathlib.Core.Path.{◌≡◌, refl, sym, ap, ◌∙◌, subst}
use mathlib.Core.Bool.{true}
use mathlib.Core.List.{List, Memᴰ}
use Prim.Native.Nat.{ℕ, ◌+◌, ◌^◌, ◌<◌}
use native.Mathlib.Omega.{arith}
use borrow.Author.Tests.{eqb-true}
use lib.Bits.{bit_and, and_le_r}
use lib.Dec.{eqb}
use Rattle.candidates.specs.Masks.{minus, union, Sub}
use Rattle.candidates.proofs.Held.{Held, none-held, held-ext, held-sub, held_all}
use Rattle.candidates.proofs.Membership.{bit-and, bit-union, ext}
use Rattle.candidates.proofs.Order.{sub-of-minus}
use Rattle.candidates.proofs.Tests.{by-test}
use Rattle.grid.proofs.Lists.{at-up_to}
use Rattle.steps.specs.Boards.{at, is_open}
use Rattle.steps.specs.Instances.{both}
use Rattle.steps.specs.Loops.{up_to}
use Rattle.steps.specs.Steps.{step_taken}
use Rattle.steps.proofs.Loops.{in-up_to, each-idle}
use Rattle.steps.proofs.Steps.{all_none}
use Rattle.cells.specs.code.Places.{held_places}
use Rattle.cells.proofs.Places.{all-mask}
use Rattle.cells.proofs.NineBits.{held-meet, nine-lt}
use Rattle.lanes.specs.code.Lanes.{nines}
use Rattle.pair_cross.specs.code.Twos.{first_of, second_of, Framed, frame_step, line_held, two_held, held_lines, line_masks, reach_of, two_lose, two_turn, lines_taken}
use Rattle.pair_cross.specs.declared.twos.Frame.{Frame}
use Rattle.pair_cross.specs.declared.twos.Frame.TheVariants.{Unit, Lines}
use Rattle.pair_cross.proofs.Frames.{two-taken}
use Rattle.pair_cross.proofs.FrameSpots.{cell_of, digit_of, Taking, line-has, gone-here, gone-placed}
use Rattle.pair_cross.proofs.Reach.{reach-covers}
use Rattle.pair_cross.proofs.TwoNumbers.{first_below, second_below, rise}
use Rattle.pair_cross.proofs.TwoTurns.{Gone}

-- ---- the lines of a frame, as nine sets of nine places

pub at_held : (m : List ℕ) (f d i : ℕ) → i < 9 → at (held_lines m f d) i ≡ held_places m (f + i) d
unfolding held_lines
at_held m f d i h = at-up_to (λ j. held_places m (f + j) d) 0 9 i h

at-line : (m : List ℕ) (F : Frame) → Framed F → (i : ℕ) → i < 9 → at (line_masks m F) i ≡ line_held m F i
at-line m (Unit u) h i l = all-mask m u i h l
at-line m (Lines f d) h i l = at_held m f d i l

module _ (m : List ℕ) (F : Frame) (framed : Framed F) where
  pub line_at : (k : ℕ) → k < 9 → at (nines (line_masks m F)) k ≡ bit_and (line_held m F k) 511
  unfolding nines
  line_at k h = at-up_to (λ i. bit_and (at (line_masks m F) i) 511) 0 9 k h ∙ ap (λ (x : ℕ). bit_and x 511) (at-line m F framed k h)

  pub line_low : (k : ℕ) → k < 9 → at (nines (line_masks m F)) k < 512
  line_low k h = omega (arith, line_at k h, and_le_r (line_held m F k) 511)

  -- a place that a line holds
  pub line-held : (k c : ℕ) → k < 9 → c < 9 → Held (at m (cell_of F k c)) (digit_of F c) → Held (at (nines (line_masks m F)) k) c
  line-held k c hk hc t = subst (λ (x : ℕ). Held x c) (sym (line_at k hk)) ((held-meet (line_held m F k) 511 c).1 (line-has m F framed k c hk hc ∙ t, held_all c hc))

  pub held-line : (k c : ℕ) → k < 9 → c < 9 → Held (at (nines (line_masks m F)) k) c → Held (at m (cell_of F k c)) (digit_of F c)
  held-line k c hk hc t = sym (line-has m F framed k c hk hc) ∙ ((held-meet (line_held m F k) 511 c).0 (subst (λ (x : ℕ). Held x c) (line_at k hk) t)).0

  nine-union : (x y : ℕ) → bit_and (union x y) 511 ≡ union (bit_and x 511) (bit_and y 511)
  nine-union x y = ext (bit_and (union x y) 511) (union (bit_and x 511) (bit_and y 511)) (λ d. omega (arith, bit-and (union x y) 511 d, bit-union x y d, bit-union (bit_and x 511) (bit_and y 511) d, bit-and x 511 d, bit-and y 511 d))

  pub held-is : (i j : ℕ) → i < 9 → j < 9 → two_held m F i j ≡ union (at (nines (line_masks m F)) i) (at (nines (line_masks m F)) j)
  unfolding two_held
  held-is i j hi hj =
      nine-union (line_held m F i) (line_held m F j) ∙ ap (λ (x : ℕ). union x (bit_and (line_held m F j) 511)) (sym (line_at i hi))
      ∙ ap (union (at (nines (line_masks m F)) i)) (sym (line_at j hj))

-- ---- nothing to lose

two-small : (m : List ℕ) (F : Frame) (i j : ℕ) → two_held m F i j < 2 ^ 16
unfolding two_held
two-small m F i j = nine-lt (union (line_held m F i) (line_held m F j))

-- no open cell of another line holds any of these places
abbrev pub Quiet : List ℕ → List ℕ → Frame → ℕ → ℕ → ℕ → Type 0
Quiet g m F i j places = (k c : ℕ) → k < 9 → c < 9 → Taking g F i j places k c → Held (at m (cell_of F k c)) (digit_of F c) → ⊥

module _ (g m : List ℕ) (F : Frame) (framed : Framed F) (i j : ℕ) (hi : i < 9) (hj : j < 9) where
  idle-lose : (a b : ℕ) → a < 9 → b < 9 → Quiet g m F i j (both a b) → two_lose g F i j a b m ≡ m
  unfolding two_lose
  idle-lose a b ha hb quiet = all_none (is_open g) (frame_step F i j a b).hits (frame_step F i j a b).loses m none
    where
      none : (e : ℕ) → Memᴰ e (frame_step F i j a b).hits → is_open g e ≡ true → bit_and (at m e) ((frame_step F i j a b).loses e) ≡ 0
      none e k f = held-ext (bit_and (at m e) ((frame_step F i j a b).loses e)) 0 (λ d. (λ t. absurd (no d ((held-meet (at m e) ((frame_step F i j a b).loses e) d).0 t)), λ t. absurd (none-held d t)))
        where
          no : (d : ℕ) → Held (at m e) d × Held ((frame_step F i j a b).loses e) d → ⊥
          no d t =
              let w : Gone g F i j a b e d = record { listed = k; free = f; digit = t.1 } in
              let p = gone-placed g i j a b hi hj ha hb F framed e d w in
              let q = (gone-here g i j a b hi hj ha hb F framed p.line p.place p.line-below p.place-below).0
              (subst (λ (x : ℕ). Gone g F i j a b x (digit_of F p.place)) p.cell (subst (λ (x : ℕ). Gone g F i j a b e x) p.digit w)) in
              quiet p.line p.place p.line-below p.place-below q (subst (λ (x : ℕ). Held (at m x) (digit_of F p.place)) p.cell (subst (λ (x : ℕ). Held (at m e) x) p.digit t.0))

  module _ (quiet : Quiet g m F i j (reach_of (two_held m F i j))) where
    idle-turn : (a b : ℕ) → a < b → b < 9 → two_turn g F i j (two_held m F i j) a b m ≡ m
    unfolding two_turn
    idle-turn a b h l =
        by-test (λ (n : List ℕ). n ≡ m) (eqb (minus (two_held m F i j) (both a b)) 0) (two_lose g F i j a b m) m
        (λ t. idle-lose a b (omega arith) l (λ k c hk hc w. quiet k c hk hc (record { free = w.free; not_first = w.not_first; not-second = w.not-second; place = held-sub c (covers t) w.place }))) (λ t. refl)
      where
        covers : eqb (minus (two_held m F i j) (both a b)) 0 ≡ true → Sub (both a b) (reach_of (two_held m F i j))
        covers t = reach-covers (two_held m F i j) a b (two-small m F i j) h l (sub-of-minus (two_held m F i j) (both a b) (eqb-true (minus (two_held m F i j) (both a b)) 0 t))

    pub passed_over_lem : lines_taken g F i j m ≡ m
    unfolding lines_taken
    passed_over_lem =
        each-idle (λ q. step_taken (is_open g) (frame_step F i j (first_of q) (second_of q))) (up_to 36) m
        (λ q k. two-taken g i j hi hj F framed m (first_of q) (second_of q) (first_below q (in-up_to 36 q k)) (second_below q (in-up_to 36 q k))
        ∙ idle-turn (first_of q) (second_of q) (rise q (in-up_to 36 q k)) (second_below q (in-up_to 36 q k)))
