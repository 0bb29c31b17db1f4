-- What the instances of two lines note: where the two hold two places, one step alone. Assumes nothing.
use mathlib.Core.Path.{◌≡◌, sym, ap, ◌∙◌}
use mathlib.Core.Bool.{false}
use mathlib.Core.Logic.{◌≢◌}
use mathlib.Core.List.{List, [], ◌∷◌}
use Prim.Native.Nat.{ℕ, zero, suc, ◌+◌, ◌≤◌, ◌<◌}
use native.Mathlib.Decide.{ℕ_discrete}
use native.Mathlib.Omega.{arith}
use lib.Bits.{and_le_r}
use Rattle.candidates.specs.Masks.{union, count, lowest, tail}
use Rattle.grid.proofs.Lists.{mem-range}
use Rattle.steps.specs.Boards.{same_masks}
use Rattle.steps.specs.Instances.{Instance}
use Rattle.steps.specs.Loops.{each, for, range}
use Rattle.steps.specs.Passes.{instance_taken}
use Rattle.steps.specs.StepLists.{step_bytes}
use Rattle.steps.specs.code.Logs.{noted, log_after}
use Rattle.steps.proofs.Loops.{each-for, each-idle}
use Rattle.steps.proofs.StepLogs.{log-append, log-idle, log-one}
use Rattle.pair_cross.specs.code.Twos.{first_of, second_of, Framed, frame_instance, line_held, two_held, two_turn, lines_turned, lines_instances}
use Rattle.pair_cross.specs.declared.twos.Frame.{Frame}
use Rattle.pair_cross.proofs.Frames.{two-taken, two-keeps}
use Rattle.pair_cross.proofs.FrameInstances.{one-taken}
use Rattle.pair_cross.proofs.TwoNumbers.{pair_at, first_below, second_below}
use Rattle.pair_cross.proofs.TwoPlaces.{first-place, second-place, the-pair, hits, misses, two-turned}

-- a loop over blocks in which block i alone does anything
log-only : (g : List ℕ) (B : ℕ → List Instance) (i : ℕ) (m l : List ℕ) (n k : ℕ) → k ≤ i → i < k + n
    → ((j : ℕ) → j < k + n → j ≢ i → (each (instance_taken g) (B j) m ≡ m) × (each (instance_taken g) (B j) (each (instance_taken g) (B i) m) ≡ each (instance_taken g) (B i) m))
    → log_after g (for (range n k) B) m l ≡ log_after g (B i) m l
log-only g B i m l zero k h o idle = absurd (omega arith)
log-only g B i m l (suc n) k h o idle = head ∙ go (ℕ_discrete k i) (λ p. log-only g B i m l n (suc k) p (omega arith) (λ j q. idle j (omega arith)))
  where
    rest : List Instance
    rest = for (range n (suc k)) B

    head : log_after g (for (range (suc n) k) B) m l ≡ log_after g rest (each (instance_taken g) (B k) m) (log_after g (B k) m l)
    head = unfold for in log-append g (B k) rest m l

    go : Dec (k ≡ i) → (suc k ≤ i → log_after g rest m l ≡ log_after g (B i) m l) → log_after g rest (each (instance_taken g) (B k) m) (log_after g (B k) m l) ≡ log_after g (B i) m l
    go (yes e) more =
        let over = each-for (instance_taken g) (range n (suc k)) B (each (instance_taken g) (B i) m) ∙ each-idle (λ j. each (instance_taken g) (B j)) (range n (suc k)) (each (instance_taken g) (B i) m)
        (λ j p. let w = mem-range n (suc k) j p in (idle j (omega (arith, w.1)) (λ q. omega (arith, w.0))).1) in
        ap (λ (x : ℕ). log_after g rest (each (instance_taken g) (B x) m) (log_after g (B x) m l)) e ∙ log-idle g rest (each (instance_taken g) (B i) m) (log_after g (B i) m l) over
    go (no e) more =
        let w = (idle k (omega arith) e).0 in
        ap (λ (x : List ℕ). log_after g rest x (log_after g (B k) m l)) w ∙ ap (log_after g rest m) (log-idle g (B k) m l w)
        ∙ more (omega arith)

-- what two lines hold is nine places
pub held-nine : (m : List ℕ) (F : Frame) (i j : ℕ) {held : ℕ} → held ≡ two_held m F i j → held < 512
unfolding two_held
held-nine m F i j is = omega (arith, is, and_le_r (union (line_held m F i) (line_held m F j)) 511)

module _ (g : List ℕ) (F : Frame) (framed : Framed F) (i j : ℕ) (hi : i < 9) (hj : j < 9) (m : List ℕ) {held : ℕ} (is : held ≡ two_held m F i j) where
  -- an instance, where held is what the two lines hold
  pub turn-taken : (a b : ℕ) → a < 9 → b < 9 → instance_taken g (frame_instance F i j a b) m ≡ two_turn g F i j held a b m
  turn-taken a b ha hb = one-taken g F framed i j a b m ∙ two-taken g i j hi hj F framed m a b ha hb ∙ ap (λ (x : ℕ). two_turn g F i j x a b m) (sym is)

  pub turn-each : (a b : ℕ) → a < 9 → b < 9 → each (instance_taken g) (frame_instance F i j a b ∷ []) m ≡ two_turn g F i j held a b m
  unfolding each
  turn-each a b ha hb = turn-taken a b ha hb

  pub turn-keeps : (a b : ℕ) → held ≡ two_held (two_turn g F i j held a b m) F i j
  turn-keeps a b = is ∙ sym (two-keeps g i j hi hj F framed held a b m)

-- two places: the step of those two
module _ (g : List ℕ) (F : Frame) (framed : Framed F) (i j : ℕ) (hi : i < 9) (hj : j < 9) (m : List ℕ) {held : ℕ} (is : held ≡ two_held m F i j) (two : count held ≡ 2) where
  low : held < 512
  low = held-nine m F i j is

  block : ℕ → List Instance
  block q = frame_instance F i j (first_of q) (second_of q) ∷ []

  the-two : ℕ
  the-two = pair_at (lowest held) (lowest (tail held))

  turned : (q : ℕ) → q < 36 → (n : List ℕ) → held ≡ two_held n F i j → each (instance_taken g) (block q) n ≡ two_turn g F i j held (first_of q) (second_of q) n
  unfolding block
  turned q h n e = turn-each g F framed i j hi hj n e (first_of q) (second_of q) (first_below q h) (second_below q h)

  after : List ℕ
  after = each (instance_taken g) (block the-two) m

  idle : (q : ℕ) → q < 36 → q ≢ the-two → (n : List ℕ) → held ≡ two_held n F i j → each (instance_taken g) (block q) n ≡ n
  unfolding the-two
  idle q h o n e = turned q h n e ∙ misses held low two g F i j q h o n

  kept : held ≡ two_held after F i j
  unfolding after the-two
  kept = turn-keeps g F framed i j hi hj m is (first_of the-two) (second_of the-two) ∙ ap (λ (o : List ℕ). two_held o F i j) (sym (turned the-two (the-pair held low two).listed m is))

  named : (l : List ℕ) → log_after g (block the-two) m l ≡ log_after g (frame_instance F i j (lowest held) (lowest (tail held)) ∷ []) m l
  unfolding block the-two
  named l =
      ap (λ (x : ℕ). log_after g (frame_instance F i j x (second_of the-two) ∷ []) m l) (the-pair held low two).first
      ∙ ap (λ (x : ℕ). log_after g (frame_instance F i j (lowest held) x ∷ []) m l) (the-pair held low two).second

  taken : instance_taken g (frame_instance F i j (lowest held) (lowest (tail held))) m ≡ lines_turned g F i j held m
  taken = turn-taken g F framed i j hi hj m is (lowest held) (lowest (tail held)) (first-place held low two) (second-place held low two) ∙ hits held low two g F i j m ∙ sym (two-turned held low two g F i j m)

  pub two-noted : same_masks m (lines_turned g F i j held m) ≡ false → (l : List ℕ) → log_after g (lines_instances F i j) m l ≡ noted (step_bytes (frame_instance F i j (lowest held) (lowest (tail held)))) l
  unfolding lines_instances block the-two after
  two-noted lost l =
      log-only g block the-two m l 36 0 (omega arith) (omega (arith, (the-pair held low two).listed)) (λ q h o. (idle q (omega arith) o m is, idle q (omega arith) o after kept))
      ∙ named l ∙ log-one g (frame_instance F i j (lowest held) (lowest (tail held))) m l (ap (same_masks m) taken ∙ lost)
