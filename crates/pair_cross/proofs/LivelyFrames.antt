-- A frame whose lines are not lively is left as it is. Assumes nothing.
use mathlib.Core.Path.{◌≡◌, sym, subst}
use mathlib.Core.Logic.{◌≢◌}
use mathlib.Core.Bool.{true}
use mathlib.Core.List.{List}
use Prim.Native.Nat.{ℕ, ◌<◌}
use native.Mathlib.Omega.{arith}
use lib.Bits.{bit_and}
use Rattle.candidates.specs.Masks.{union}
use Rattle.candidates.proofs.Held.{Held, none-held, held-sub}
use Rattle.steps.specs.Boards.{at, is_open}
use Rattle.steps.specs.Loops.{up_to}
use Rattle.steps.proofs.Loops.{in-up_to, each-idle}
use Rattle.cells.proofs.NineBits.{held-meet}
use Rattle.lanes.specs.code.Lanes.{nines}
use Rattle.pair_cross.specs.code.Twos.{first_of, second_of, Framed, line_masks, reach_of, lines_taken, frame_taken}
use Rattle.pair_cross.specs.code.Lively.{tally_of, others, lost_of, lively_of}
use Rattle.pair_cross.specs.declared.twos.Frame.{Frame}
use Rattle.pair_cross.proofs.FrameSpots.{cell_of, digit_of}
use Rattle.pair_cross.proofs.Passed.{line_low, line-held, held-is, passed_over_lem}
use Rattle.pair_cross.proofs.TwoNumbers.{first_below, second_below, rise}
use Rattle.pair_cross.proofs.Holders.{others-are, other-joined}
use Rattle.pair_cross.proofs.LivelyLines.{lane-still}

-- what each open cell can lose is in `free`
abbrev pub Frees : List ℕ → List ℕ → Frame → ℕ → Type 0
Frees g m F free = (k c : ℕ) → k < 9 → c < 9 → is_open g (cell_of F k c) ≡ true → Held (at m (cell_of F k c)) (digit_of F c) → Held free c

module _ (g m : List ℕ) (F : Frame) (framed : Framed F) (free : ℕ) (frees : Frees g m F free) where
  module _ (i j : ℕ) (differ : i ≢ j) (hi : i < 9) (hj : j < 9) where
    pub lines-still : lost_of (tally_of (at (nines (line_masks m F)))) (at (nines (line_masks m F)) i) (at (nines (line_masks m F)) j) free ≡ 0 → lines_taken g F i j m ≡ m
    lines-still e = passed_over_lem g m F framed i j hi hj (λ k c hk hc w t.
        let N = nines (line_masks m F) in
        let x = at N i in
        let y = at N j in
        let o = held-sub c (other-joined N i j k hk w.not_first w.not-second) (line-held m F framed k c hk hc t) in
        let a = subst (λ (z : ℕ). Held z c) (sym (others-are N i j differ hi hj)) o in
        let r = subst (λ (z : ℕ). Held (reach_of z) c) (held-is m F framed i j hi hj) w.place in
        none-held c (subst (λ (z : ℕ). Held z c) e
        ((held-meet (bit_and (others (tally_of (at N)) x y) free) (reach_of (union x y)) c).1 ((held-meet (others (tally_of (at N)) x y) free c).1 (a, frees k c hk hc w.free t), r))))

  pub frame-still : lively_of (at (nines (line_masks m F))) free ≡ 0 → frame_taken g F m ≡ m
  unfolding frame_taken
  frame-still e = each-idle (λ p. lines_taken g F (first_of p) (second_of p)) (up_to 36) m (λ p k. pair p (in-up_to 36 p k))
    where
      pair : (p : ℕ) → p < 36 → lines_taken g F (first_of p) (second_of p) m ≡ m
      pair p h =
          lines-still (first_of p) (second_of p) (λ e. absurd (omega (arith, rise p h))) (first_below p h) (second_below p h)
          (lane-still (at (nines (line_masks m F))) free (line_low m F framed) (first_of p) (second_of p) (rise p h) (second_below p h) e)
