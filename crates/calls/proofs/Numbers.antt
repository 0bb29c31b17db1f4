-- Which numbers are steps, and which of them are not of a sort of calls. Assumes nothing.
use mathlib.Core.Path.{◌≡◌, refl, sym, ap, ◌∙◌}
use mathlib.Core.Logic.{◌≢◌}
use mathlib.Core.Bool.{Bool, true, false, not, ◌&&◌}
use mathlib.Core.List.{List, [], ◌∷◌, map}
use mathlib.Core.Option.{Option, none, some}
use Prim.Native.Nat.{ℕ, zero, suc, ◌<◌, zero-le}
use native.Mathlib.Omega.{arith}
use borrow.Author.Tests.{lt-ltb, le-ltb, ltb-true, ltb-false, ne_eqb}
use lib.Dec.{ltb, eqb}
use lib.ListN.{length, get_or}
use Rattle.candidates.proofs.Tests.{below, both, implies, implied, T_true}
use Rattle.steps.specs.Calls.{Call, is_ported, is_chain, without}
use Rattle.steps.specs.Loops.{up_to}
use Rattle.steps.proofs.Loops.{none_first, in-up_to}
use Rattle.calls.specs.Replays.{first_no_step, cons_call, calls_of}
use Rattle.calls.specs.StepNumbers.{step_calls, step_call, is_call, is_step}

-- a list's members have the numbers below its length
numbers : (ks : List Call) (n : ℕ) → is_call (get_or (map some ks) n none) ≡ ltb n (length ks)
numbers [] n = sym (le-ltb n 0 zero-le)
numbers (k ∷ ks) zero = sym (lt-ltb 0 (length (k ∷ ks)) (omega arith))
numbers (k ∷ ks) (suc n) = numbers ks n ∙ below (ltb n (length ks)) refl
  where
    below : (t : Bool) → ltb n (length ks) ≡ t → ltb n (length ks) ≡ ltb (suc n) (length (k ∷ ks))
    below true e = e ∙ sym (lt-ltb (suc n) (length (k ∷ ks)) (omega (arith, ltb-true n (length ks) e)))
    below false e = e ∙ sym (le-ltb (suc n) (length (k ∷ ks)) (omega (arith, ltb-false n (length ks) e)))

pub steps-below : (n : ℕ) → ltb n 16 ≡ is_step n
unfolding step_call
steps-below n = sym (numbers step_calls n)

-- no call of the sort
clear : (Call → Bool) → Option Call → Bool
clear sort none = true
clear sort (some k) = not (sort k)

clear-cons : (sort : Call → Bool) (o : Option Call) (ks : List Call) → clear sort o ≡ true → without sort ks ≡ true → without sort (cons_call o ks) ≡ true
unfolding clear
clear-cons sort none ks t u = u
clear-cons sort (some k) ks t u = both t u

-- every number of the list has a property
abbrev pub Each : (ℕ → Type 0) → List ℕ → Type 0
Each P ns = (i : ℕ) → i < length ns → P (get_or ns i 0)

clear-calls : (sort : Call → Bool) (P : ℕ → Type 0) → ((n : ℕ) → P n → clear sort (step_call n) ≡ true) → (ns : List ℕ) → Each P ns → without sort (calls_of ns) ≡ true
unfolding calls_of
clear-calls sort P one [] h = refl
clear-calls sort P one (n ∷ ns) h = clear-cons sort (step_call n) (calls_of ns) (one n (h 0 (omega arith))) (clear-calls sort P one ns (λ i k. h (suc i) (omega arith)))

-- 13 is the ported chain pass, 15 the X-chain pass
abbrev pub NotPorted : ℕ → Type 0
NotPorted n = (n < 16) × (n ≢ 13)

abbrev pub NoChain : ℕ → Type 0
NoChain n = (n < 16) × (n ≢ 13) × (n ≢ 15)

not-ported : (n : ℕ) → NotPorted n → clear is_ported (step_call n) ≡ true
unfolding clear step_call
not-ported n h =
    T_true (clear is_ported (step_call n))
    (implied (not (eqb n 13)) (clear is_ported (step_call n)) (below 16 (λ n. implies (not (eqb n 13)) (clear is_ported (step_call n))) tt n h.0) (ap not (ne_eqb n 13 h.1)))

no-chain : (n : ℕ) → NoChain n → clear is_chain (step_call n) ≡ true
unfolding clear step_call
no-chain n h =
    T_true (clear is_chain (step_call n))
    (implied (not (eqb n 13) && not (eqb n 15)) (clear is_chain (step_call n)) (below 16 (λ n. implies (not (eqb n 13) && not (eqb n 15)) (clear is_chain (step_call n))) tt n h.0)
    (both (ap not (ne_eqb n 13 h.1)) (ap not (ne_eqb n 15 h.2))))

pub ported-calls : (ns : List ℕ) → Each NotPorted ns → without is_ported (calls_of ns) ≡ true
ported-calls = clear-calls is_ported NotPorted not-ported

pub chain-calls : (ns : List ℕ) → Each NoChain ns → without is_chain (calls_of ns) ≡ true
chain-calls = clear-calls is_chain NoChain no-chain

pub all-steps : (ns : List ℕ) → Each (λ n. n < 16) ns → first_no_step ns ≡ none
unfolding first_no_step
all-steps ns h = none_first (λ i. not (is_step (get_or ns i 0))) (up_to (length ns)) (λ i k. step (get_or ns i 0) (h i (in-up_to (length ns) i k)))
  where
    step : (n : ℕ) → n < 16 → not (is_step n) ≡ false
    step n low = ap not (sym (steps-below n) ∙ lt-ltb n 16 low)
