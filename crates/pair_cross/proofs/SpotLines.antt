-- The lanes of the digits, written line by line. Assumes nothing.
use mathlib.Core.Path.{◌≡◌, refl, sym, ap, ◌∙◌, subst}
use mathlib.Core.Logic.{◌≢◌}
use mathlib.Core.List.{List}
use Prim.Native.Nat.{ℕ, zero, suc, ◌+◌, ◌*◌, ◌≤◌, ◌<◌}
use native.Mathlib.Decide.{ℕ_discrete}
use native.Mathlib.Omega.{arith}
use lib.ListN.{length, replicate, set, length-set}
use lib.Seq.{get_or-set_same, get_or-set_other}
use Rattle.grid.proofs.Lists.{at-up_to, mem-range}
use Rattle.steps.specs.Boards.{at}
use Rattle.steps.specs.Loops.{each, range}
use Rattle.steps.proofs.Loops.{each_keeps}
use Rattle.lanes.specs.code.Lanes.{lane_at}
use Rattle.candidates.specs.Masks.{place_mask}
use Rattle.pair_cross.specs.code.Spots.{spots_of, spot_sets, sets_put, DigitLanes}

module _ (b : ℕ) (x : ℕ → ℕ) where
  abbrev put : ℕ → List ℕ → List ℕ
  put d l = set l (b + d) (x d)

  puts-size : (n k : ℕ) (q : List ℕ) → length (each put (range n k) q) ≡ length q
  puts-size n k q = each_keeps put (λ (l : List ℕ). length l ≡ length q) (range n k) (λ d h l e. length-set l (b + d) (x d) ∙ e) q refl

  puts-other : (n k : ℕ) (q : List ℕ) (j : ℕ) → ((d : ℕ) → k ≤ d → d < k + n → j ≢ b + d) → at (each put (range n k) q) j ≡ at q j
  puts-other n k q j away =
      each_keeps put (λ (l : List ℕ). at l j ≡ at q j) (range n k)
      (λ d h l e. let r = mem-range n k d h in get_or-set_other l (b + d) j (x d) 0 (away d r.0 r.1) ∙ e) q refl

  puts-here : (n k : ℕ) (q : List ℕ) (d : ℕ) → k ≤ d → d < k + n → b + d < length q → at (each put (range n k) q) (b + d) ≡ x d
  unfolding each
  puts-here zero k q d h l s = absurd (omega arith)
  puts-here (suc n) k q d h l s = go (ℕ_discrete d k) (λ a. puts-here n (suc k) (put k q) d a (omega arith) (omega (arith, length-set q (b + k) (x k))))
    where
      go : Dec (d ≡ k) → (suc k ≤ d → at (each put (range n (suc k)) (put k q)) (b + d) ≡ x d) → at (each put (range n (suc k)) (put k q)) (b + d) ≡ x d
      go (yes e) next =
          puts-other n (suc k) (put k q) (b + d) (λ i a c w. absurd (omega arith))
          ∙ subst (λ (i : ℕ). at (put k q) (b + i) ≡ x i) (sym e) (get_or-set_same q (b + k) (x k) 0 (omega arith))
      go (no e) next = next (omega arith)

-- the lines before this one are written
pub record Written (p : List ℕ) (first line : ℕ) (q : List ℕ) : Type 0 where
  pub size : length q ≡ 432
  pub below : line ≤ 9
  pub spots : (l d : ℕ) → l < line → d < 16 → lane_at q d l ≡ spots_of p (first + l) (place_mask d)

module _ (p : List ℕ) (first : ℕ) where
  pub written_start : Written p first 0 (replicate 432 0)
  written_start = record { size = refl; below = omega arith; spots = λ l d h k. absurd (omega arith) }

  pub written_on : {line : ℕ} {q o sets : List ℕ} → line < 9 → Written p first line q → sets ≡ spot_sets p (first + line) → o ≡ sets_put line sets q → Written p first (line + 1) o
  unfolding sets_put spot_sets
  written_on {line} {q} {o} {sets} h w is-sets e = record {
    size = ap length e ∙ puts-size (48 * line) (at sets) 16 0 q ∙ w.size;
    below = omega arith;
    spots = λ l d k m. go l d k m (ℕ_discrete l line);
  }
    where
      go : (l d : ℕ) → l < line + 1 → d < 16 → Dec (l ≡ line) → lane_at o d l ≡ spots_of p (first + l) (place_mask d)
      go l d k m (yes s) =
          subst (λ (i : ℕ). lane_at o d i ≡ spots_of p (first + i) (place_mask d)) (sym s)
          (ap (λ (z : List ℕ). at z (48 * line + d)) e ∙ puts-here (48 * line) (at sets) 16 0 q d (omega arith) (omega arith) (omega (arith, w.size))
          ∙ ap (λ (z : List ℕ). at z d) is-sets ∙ at-up_to (λ d. spots_of p (first + line) (place_mask d)) 0 16 d m)
      go l d k m (no s) =
          ap (λ (z : List ℕ). at z (48 * l + d)) e ∙ puts-other (48 * line) (at sets) 16 0 q (48 * l + d) (λ i a c r. s (omega arith))
          ∙ w.spots l d (omega arith) m

  pub written-end : {line : ℕ} {q : List ℕ} → 9 ≤ line → Written p first line q → DigitLanes p first q
  written-end h w = record { spots = λ l d k m. w.spots l d (omega (arith, w.below)) m }
