-- Masks that wide instances reach from others, and what follows for settled masks: the order of the instances has no bearing on where they end. Assumes nothing.
use mathlib.Core.Path.{◌≡◌, refl, sym, ◌∙◌, subst}
use mathlib.Core.Bool.{false}
use mathlib.Core.List.{List, Memᴰ}
use Prim.Native.Nat.{ℕ}
use lib.ListN.{length}
use Rattle.steps.specs.Boards.{at, is_open, Under, Admissible}
use Rattle.steps.specs.Instances.{Instance, step_of}
use Rattle.steps.specs.Loops.{each}
use Rattle.steps.specs.Passes.{Kind, kinds, instances, instance_taken, pass, sweep, Settled}
use Rattle.steps.proofs.Loops.{each_keeps}
use Rattle.steps.proofs.Masks.{under-refl, under-trans, under-eq, under-antisym}
use Rattle.steps.proofs.Steps.{take-under, take-length, take-shut, take-mono}

module _ (g : List ℕ) where
  -- n comes from m by instances of the wide passes, one after the other
  pub data Reach (m : List ℕ) : List ℕ → Type 0 where
    start : Reach m m
    next : {n : List ℕ} → Reach m n → (k : Kind) (x : Instance) → Memᴰ x (instances k) → Reach m (instance_taken g x n)

  pub reach-trans : {m n o : List ℕ} → Reach m n → Reach n o → Reach m o
  reach-trans p start = p
  reach-trans p (next q k x h) = next (reach-trans p q) k x h

  pub reach-eq : {m n o : List ℕ} → Reach m n → n ≡ o → Reach m o
  reach-eq {m} p e = subst (λ (l : List ℕ). Reach m l) e p

  pub reach-under : {m n : List ℕ} → Reach m n → Under n m
  reach-under {m} start = under-refl m
  reach-under (next {n = n} p k x h) = under-trans (take-under (is_open g) (step_of x) n) (reach-under p)

  pub reach-length : {m n : List ℕ} → Reach m n → length n ≡ length m
  reach-length start = refl
  reach-length (next {n = n} p k x h) = take-length (is_open g) (step_of x) n ∙ reach-length p

  pub reach-shut : {m n : List ℕ} → Reach m n → (c : ℕ) → is_open g c ≡ false → at n c ≡ at m c
  reach-shut start c f = refl
  reach-shut (next {n = n} p k x h) c f = take-shut (is_open g) (step_of x) n c f ∙ reach-shut p c f

  pub reach-admissible : {m n : List ℕ} → Reach m n → Admissible g m → Admissible g n
  reach-admissible p a =
      record {
        size = reach-length p ∙ a.size;
        under = under-trans (reach-under p) a.under;
        clues = λ c f. reach-shut p c f ∙ a.clues c f;
      }

  -- ---- loops of instances

  pub each-reach : {A : Type 0} (f : A → List ℕ → List ℕ) (xs : List A) → ((x : A) → Memᴰ x xs → (m : List ℕ) → Reach m (f x m)) → (m : List ℕ) → Reach m (each f xs m)
  each-reach f xs h m = each_keeps f (Reach m) xs (λ x k n p. reach-trans p (h x k n)) m start

  pub pass-reach : (k : Kind) (m : List ℕ) → Reach m (pass g k m)
  unfolding pass
  pass-reach k m = each-reach (instance_taken g) (instances k) (λ x h n. next start k x h) m

  pub sweep-reach : (m : List ℕ) → Reach m (sweep g m)
  unfolding sweep
  sweep-reach m = each-reach (pass g) kinds (λ k h n. pass-reach k n) m

  -- ---- settled masks

  -- they stay below all that is reached from above them
  pub reach-keeps : {z m n : List ℕ} → Settled g z → Under z m → Reach m n → Under z n
  reach-keeps s p start = p
  reach-keeps s p (next {n = n} q k x h) = under-trans (under-eq (sym (s.still k x h))) (take-mono (is_open g) (step_of x) (reach-keeps s p q))

  -- Confluence: two settled ends of one start are the same.
  pub one_end : {m n o : List ℕ} → Reach m n → Reach m o → Settled g n → Settled g o → n ≡ o
  one_end p q s t =
      under-antisym (reach-length p ∙ sym (reach-length q)) (reach-keeps s (reach-under p) q) (reach-keeps t (reach-under q) p)
