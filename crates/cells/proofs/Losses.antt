-- Losses one after the other, and whether they changed the masks; what an instance notes by it. Assumes nothing.
use mathlib.Core.Path.{◌≡◌, refl, sym, ap, ◌∙◌, subst}
use mathlib.Core.Bool.{Bool, true, false, cond, not, ◌||◌, true≢false}
use mathlib.Core.Logic.{◌≢◌}
use mathlib.Core.List.{List, [], ◌∷◌}
use Prim.Native.Nat.{ℕ}
use native.Mathlib.Omega.{arith}
use borrow.Author.Tests.{not-true, not-false}
use lib.Bits.{bit_and, and_le_l}
use lib.Dec.{ltb}
use lib.ListN.{length, set}
use Rattle.candidates.specs.Masks.{has, minus}
use Rattle.candidates.proofs.Tests.{by-test}
use Rattle.grid.specs.Units.{unit_cell}
use Rattle.steps.specs.Boards.{at, Under, same_masks}
use Rattle.steps.specs.Instances.{Instance}
use Rattle.steps.specs.Loops.{each, up_to}
use Rattle.steps.specs.Passes.{changed, instance_taken}
use Rattle.steps.specs.StepLists.{step_bytes}
use Rattle.steps.specs.Steps.{lose_at}
use Rattle.steps.specs.code.Logs.{noted, log_after}
use Rattle.steps.proofs.Loops.{each_keeps}
use Rattle.steps.proofs.Masks.{under-refl, under-trans, under-antisym, under-eq, same_refl, same-eq}
use Rattle.steps.proofs.StepLogs.{log-one, log-none}
use Rattle.steps.proofs.Steps.{lose-here, lose-length, lose-under}
use Rattle.cells.specs.code.Places.{lose_in, lose_places}

-- the masks went from m to n, nothing came back, and x tells whether they changed
pub record Went (x : Bool) (m n : List ℕ) : Type 0 where
  pub under : Under n m
  pub size : length n ≡ length m
  pub told : x ≡ changed m n

pub told_none : (m : List ℕ) → false ≡ changed m m
told_none m = ap not (sym (same_refl m))

pub went-none : (m : List ℕ) → Went false m m
went-none m = record { under = under-refl m; size = refl; told = told_none m }

-- one loss after the other
pub went_on : {x y : Bool} {m n o : List ℕ} → Went x m n → Went y n o → Went (x || y) m o
went_on {x} {y} {m} {n} {o} a b =
    record {
      under = under-trans b.under a.under;
      size = b.size ∙ a.size;
      told = rw (a.told, b.told) (go (same_masks m n) refl);
    }
  where
    go : (t : Bool) → same_masks m n ≡ t → (not t || changed n o) ≡ changed m o
    go true e = ap (λ (l : List ℕ). changed l o) (sym (same-eq m n e))
    go false e = later (same_masks m o) refl
      where
        -- masks that are as they were in the end were so in between
        later : (s : Bool) → same_masks m o ≡ s → true ≡ not s
        later true f =
            let between = under-antisym a.size a.under (under-trans (under-eq (same-eq m o f)) b.under) in
            absurd (true≢false (sym (same_refl m) ∙ ap (same_masks m) (sym between) ∙ e))
        later false f = refl

-- ---- cells

-- a cell that holds any of the digits changes
pub told-some : (c k : ℕ) (m : List ℕ) → bit_and (at m c) k ≢ 0 → true ≡ changed m (set m c (minus (at m c) k))
told-some c k m d = go (same_masks m n) refl
  where
    n : List ℕ
    n = set m c (minus (at m c) k)

    go : (t : Bool) → same_masks m n ≡ t → true ≡ not t
    go true e =
        let same : at m c ≡ minus (at m c) k = ap (λ (o : List ℕ). at o c) (same-eq m n e) ∙ lose-here (λ _. true) c k m refl in
        absurd (d (omega (arith, and_le_l (at m c) k)))
    go false e = refl

module _ (free : ℕ → Bool) (k : ℕ) {x : Bool} {m n : List ℕ} where
  pub went-cell : (c : ℕ) → n ≡ lose_in free c k m → x ≡ changed m n → Went x m n
  went-cell c e t =
      record {
        under = subst (λ (o : List ℕ). Under o m) (sym e) (by-test (λ (o : List ℕ). Under o m) (ltb c 81) (lose_at free c k m) m (λ _. lose-under free c k m) (λ _. under-refl m));
        size = ap length e ∙ by-test (λ (o : List ℕ). length o ≡ length m) (ltb c 81) (lose_at free c k m) m (λ _. lose-length free c k m) (λ _. refl);
        told = t;
      }

module _ (free : ℕ → Bool) (u places k : ℕ) {x : Bool} {m n : List ℕ} where
  pub went-places : n ≡ lose_places free u places k m → x ≡ changed m n → Went x m n
  unfolding lose_places
  went-places e t = record { under = subst (λ (o : List ℕ). Under o m) (sym e) whole.0; size = ap length e ∙ whole.1; told = t }
    where
      turn : ℕ → List ℕ → List ℕ
      turn i o = cond (has places i) (lose_in free (unit_cell u i) k o) o

      Kept : List ℕ → Type 0
      Kept o = Under o m × (length o ≡ length m)

      step : (i : ℕ) (o : List ℕ) → Kept o → Kept (turn i o)
      step i o p =
          let w = went-cell free k {m = o} (unit_cell u i) refl refl in
          by-test Kept (has places i) (lose_in free (unit_cell u i) k o) o (λ _. (under-trans w.under p.0, w.size ∙ p.1)) (λ _. p)

      whole : Kept (each turn (up_to 9) m)
      whole = each_keeps turn Kept (up_to 9) (λ i _. step i) m (under-refl m, refl)

-- ---- what an instance notes

module _ (g : List ℕ) (x : Instance) (m : List ℕ) {n : List ℕ} (taken : n ≡ instance_taken g x m) (l : List ℕ) where
  pub noted-lost : changed m n ≡ true → noted (step_bytes x) l ≡ log_after g (x ∷ []) m l
  noted-lost t = sym (log-one g x m l (ap (same_masks m) (sym taken) ∙ not-true (same_masks m n) t))

  pub noted-kept : changed m n ≡ false → l ≡ log_after g (x ∷ []) m l
  noted-kept t = sym (log-none g x m l (sym taken ∙ sym (same-eq m n (not-false (same_masks m n) t))))
