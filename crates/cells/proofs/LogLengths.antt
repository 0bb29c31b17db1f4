-- Noting leaves a log as long as it was, and one without bytes stays so. Assumes nothing.
use mathlib.Core.Path.{◌≡◌, refl, sym, ap, ◌∙◌}
use mathlib.Core.List.{List, [], ◌∷◌}
use Prim.Native.Nat.{ℕ, ◌+◌, ◌*◌}
use native.Mathlib.Omega.{arith}
use lib.Dec.{ltb}
use lib.ListN.{length, length-set}
use Rattle.candidates.proofs.Tests.{by-test}
use Rattle.steps.specs.Instances.{Instance}
use Rattle.steps.specs.Loops.{each}
use Rattle.steps.specs.StepLists.{step_bytes, effective}
use Rattle.steps.specs.code.Logs.{steps_noted, put_six, put_count, noted, log_after}

six-length : (i : ℕ) (bs l : List ℕ) → length (put_six i bs l) ≡ length l
unfolding put_six
six-length i bs l = simp length-set

count-length : (n : ℕ) (l : List ℕ) → length (put_count n l) ≡ length l
unfolding put_count
count-length n l = simp length-set

noted-length : (bs l : List ℕ) → length (noted bs l) ≡ length l
unfolding noted
noted-length bs l =
    let n = steps_noted l in
    by-test (λ (o : List ℕ). length o ≡ length l) (ltb n 729) (put_count (n + 1) (put_six (6 * n) bs l)) l (λ _. count-length (n + 1) (put_six (6 * n) bs l) ∙ six-length (6 * n) bs l) (λ _. refl)

-- a log without bytes
pub noted-none : (bs l : List ℕ) → length l ≡ 0 → noted bs l ≡ l
noted-none bs [] e = unfold noted put_count put_six in refl
noted-none bs (x ∷ l) e = absurd (omega (arith, e))

all-length : (xs : List Instance) (l : List ℕ) → length (each (λ x. noted (step_bytes x)) xs l) ≡ length l
unfolding each
all-length [] l = refl
all-length (x ∷ xs) l = all-length xs (noted (step_bytes x) l) ∙ noted-length (step_bytes x) l

pub log-length : (g : List ℕ) (xs : List Instance) (m l : List ℕ) → length (log_after g xs m l) ≡ length l
unfolding log_after
log-length g xs m l = all-length (effective g xs m) l

-- a loop: where what is left of it, from the log as it is, makes the whole from the log at its start, the two are as long as each other
pub log-kept : (g : List ℕ) (xs ys : List Instance) (m n k l : List ℕ) → log_after g xs m k ≡ log_after g ys n l → length k ≡ length l
log-kept g xs ys m n k l e = sym (log-length g xs m k) ∙ ap length e ∙ log-length g ys n l
