-- The instances of two lines, place after place and with each of those above it: those that are left still make the whole, of the masks and of the log. Assumes nothing.
use mathlib.Core.Path.{◌≡◌, refl, sym, ap, ap₂, ◌∙◌, subst}
use mathlib.Core.List.{List, [], ◌∷◌, ◌++◌}
use Prim.Native.Nat.{ℕ, ◌+◌, ◌-◌, ◌≤◌, ◌<◌}
use Rattle.grid.proofs.Lists.{range-on, range-end}
use Rattle.steps.specs.Instances.{Instance}
use Rattle.steps.specs.Loops.{each, for, range, above}
use Rattle.steps.specs.Passes.{instance_taken}
use Rattle.steps.specs.StepLists.{effective}
use Rattle.steps.specs.code.Logs.{log_after}
use Rattle.steps.proofs.StepLogs.{log-append}
use Rattle.pair_cross.specs.code.Twos.{first_of, second_of, Framed, frame_instance, two_held, two_turn, lines_turned, lines_instances}
use Rattle.pair_cross.specs.declared.twos.Frame.{Frame}
use Rattle.pair_cross.proofs.FrameInstances.{lines-each}
use Rattle.pair_cross.proofs.FrameLogs.{turn-taken, turn-keeps}
use Rattle.pair_cross.proofs.Frames.{lines-taken}

-- ---- the instances that are left

module _ (F : Frame) (i j : ℕ) where
  abbrev block : ℕ → ℕ → List Instance
  block a b = frame_instance F i j a b ∷ []

  -- of place a, with those above it
  abbrev row : ℕ → List Instance
  row a = for (above a 9) (block a)

  -- from place a on
  unfoldable pub left_from : ℕ → List Instance
  left_from a = for (range (9 - a) a) row

  -- of place a from b on, and then from the next place on
  unfoldable pub left_at : ℕ → ℕ → List Instance
  left_at a b = for (range (9 - b) b) (block a) ++ left_from (a + 1)

  whole : left_from 0 ≡ lines_instances F i j
  unfolding left_from for lines_instances first_of second_of
  whole = refl

  pub row-begun : (a : ℕ) → a < 9 → left_from a ≡ left_at a (a + 1)
  unfolding left_from left_at for
  row-begun a h = ap (λ (is : List ℕ). for is row) (range-on 9 a h)

  row-on : (a b : ℕ) → b < 9 → left_at a b ≡ frame_instance F i j a b ∷ left_at a (b + 1)
  unfolding left_at for
  row-on a b h = ap (λ (is : List ℕ). for is (block a) ++ left_from (a + 1)) (range-on 9 b h)

  pub row-over : (a b : ℕ) → 9 ≤ b → left_at a b ≡ left_from (a + 1)
  unfolding left_at for
  row-over a b h = ap (λ (is : List ℕ). for is (block a) ++ left_from (a + 1)) (range-end 9 b h)

  all-over : (a : ℕ) → 9 ≤ a → left_from a ≡ []
  unfolding left_from for
  all-over a h = ap (λ (is : List ℕ). for is row) (range-end 9 a h)

-- ---- the loop

-- masks n and log k are what a loop that began with m and l has come to, and xs is left; the two lines hold what they held
pub record Left (g : List ℕ) (F : Frame) (i j held : ℕ) (m l : List ℕ) (xs : List Instance) (n k : List ℕ) : Type 0 where
  pub kept : held ≡ two_held n F i j
  pub masks : each (instance_taken g) xs n ≡ each (instance_taken g) (lines_instances F i j) m
  pub log : log_after g xs n k ≡ log_after g (lines_instances F i j) m l

module _ (g : List ℕ) (F : Frame) (framed : Framed F) (i j : ℕ) (hi : i < 9) (hj : j < 9) (m l : List ℕ) {held : ℕ} where
  pub left-start : held ≡ two_held m F i j → Left g F i j held m l (left_from F i j 0) m l
  left-start is = record { kept = is; masks = ap (λ (xs : List Instance). each (instance_taken g) xs m) (whole F i j); log = ap (λ (xs : List Instance). log_after g xs m l) (whole F i j) }

  module _ {n k : List ℕ} where
    pub left-same : {xs ys : List Instance} → xs ≡ ys → Left g F i j held m l xs n k → Left g F i j held m l ys n k
    left-same e w = subst (λ (xs : List Instance). Left g F i j held m l xs n k) e w

    pub left-on : (a b : ℕ) → a < 9 → b < 9 → Left g F i j held m l (left_at F i j a b) n k → {n₁ k₁ : List ℕ} → n₁ ≡ two_turn g F i j held a b n → k₁ ≡ log_after g (frame_instance F i j a b ∷ []) n k → Left g F i j held m l (left_at F i j a (b + 1)) n₁ k₁
    unfolding each
    left-on a b ha hb w {n₁} {k₁} turned noting =
        let x = frame_instance F i j a b in
        let rest = left_at F i j a (b + 1) in
        let v = left-same (row-on F i j a b hb) w in
        let taken = turned ∙ sym (turn-taken g F framed i j hi hj n w.kept a b ha hb) in record {
          kept = turn-keeps g F framed i j hi hj n w.kept a b ∙ ap (λ (o : List ℕ). two_held o F i j) (sym turned);
          masks = ap (each (instance_taken g) rest) taken ∙ v.masks;
          log = ap₂ (log_after g rest) taken noting ∙ sym (log-append g (x ∷ []) rest n k) ∙ v.log;
        }

    pub left-end : (a : ℕ) → 9 ≤ a → held ≡ two_held m F i j → Left g F i j held m l (left_from F i j a) n k → (n ≡ lines_turned g F i j held m) × (k ≡ log_after g (lines_instances F i j) m l)
    unfolding each log_after effective
    left-end a h is w =
        let v = left-same (all-over F i j a h) w in
        (v.masks ∙ lines-each g F framed i j m ∙ lines-taken g i j hi hj F framed m ∙ ap (λ (x : ℕ). lines_turned g F i j x m) (sym is), v.log)
