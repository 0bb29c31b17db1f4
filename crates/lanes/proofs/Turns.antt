-- Nine turns of which those are passed over that were seen to be idle at the start: each turn leaves alone what the others are tested by. Assumes nothing.
use mathlib.Core.Path.{◌≡◌, refl, sym, ◌∙◌, subst}
use mathlib.Core.Logic.{◌≢◌}
use mathlib.Core.List.{List}
use Prim.Native.Nat.{ℕ, ◌+◌, ◌-◌, ◌≤◌, ◌<◌}
use native.Mathlib.Omega.{arith}
use Rattle.grid.proofs.Lists.{turn-done, turns-over}
use Rattle.steps.specs.Loops.{each, range, up_to}
use Rattle.steps.proofs.Loops.{in-up_to, each-idle}
use Rattle.lanes.specs.code.Lanes.{joined_sets, SameOn, Skips}
use Rattle.lanes.proofs.LaneUnits.{none-joined}

-- a turn of part i leaves part j as it is
pub record Parted (Same : ℕ → List ℕ → List ℕ → Type 0) (turn : ℕ → List ℕ → List ℕ) : Type 0 where
  pub start : (j : ℕ) (m : List ℕ) → Same j m m
  pub then : (j : ℕ) {m n o : List ℕ} → Same j n m → Same j o n → Same j o m
  pub keeps : (i j : ℕ) → i < 9 → j < 9 → i ≢ j → (m : List ℕ) → Same j (turn i m) m

-- the turns before turn k are over: m is what they made of m₀
pub record Going (Same : ℕ → List ℕ → List ℕ → Type 0) (turn : ℕ → List ℕ → List ℕ) (m₀ m : List ℕ) (k : ℕ) : Type 0 where
  pub below : k ≤ 9
  pub left : each turn (range (9 - k) k) m ≡ each turn (up_to 9) m₀
  pub same : (j : ℕ) → k ≤ j → j < 9 → Same j m m₀

module _ {Same : ℕ → List ℕ → List ℕ → Type 0} {turn : ℕ → List ℕ → List ℕ} (parted : Parted Same turn) where
  pub going_start : (m : List ℕ) → Going Same turn m m 0
  going_start m = record { below = omega arith; left = refl; same = λ j h l. parted.start j m }

  module _ {m₀ m : List ℕ} {k : ℕ} (w : Going Same turn m₀ m k) where
    pub going_on : {n : List ℕ} → k < 9 → n ≡ turn k m → Going Same turn m₀ n (k + 1)
    going_on {n} h e = record {
      below = omega arith;
      left = turn-done turn 9 k h e w.left;
      same = λ j a l. parted.then j (w.same j (omega arith) l) (subst-same j (parted.keeps k j h l (λ q. absurd (omega arith)) m));
    }
      where
        subst-same : (j : ℕ) → Same j (turn k m) m → Same j n m
        subst-same j s = subst (λ (o : List ℕ). Same j o m) (sym e) s

    pub going-past : {n : List ℕ} → k < 9 → n ≡ m → turn k m ≡ m → Going Same turn m₀ n (k + 1)
    going-past {n} h e idle = going_on h (e ∙ sym idle)

    pub going_end : 9 ≤ k → m ≡ each turn (up_to 9) m₀
    going_end h = turns-over turn 9 k h w.left

  -- where no set holds anything, no turn does anything
  pub skips-idle : {due m : List ℕ} → Skips Same turn due m → joined_sets due ≡ 0 → each turn (up_to 9) m ≡ m
  skips-idle {due} {m} w e = each-idle turn (up_to 9) m (λ k h. w.idle k (in-up_to 9 k h) (none-joined due e k (omega (arith, in-up_to 9 k h))) m (parted.start k m))

-- ---- units of a family

pub same_start : (u : ℕ) (m : List ℕ) → SameOn u m m
same_start u m = record { at = λ i h. refl }

pub same_then : (u : ℕ) {m n o : List ℕ} → SameOn u n m → SameOn u o n → SameOn u o m
same_then u a b = record { at = λ i h. b.at i h ∙ a.at i h }
