-- A flag that a search of the numbers below n goes with: whether any of them passes. Assumes nothing.
use mathlib.Core.Path.{◌≡◌, refl, sym, ap, ◌∙◌}
use mathlib.Core.Bool.{Bool, true, false, cond, not, ◌||◌, true≢false}
use mathlib.Core.Option.{Option, none, some}
use Prim.Native.Nat.{ℕ, ◌+◌, ◌-◌, ◌≤◌, ◌<◌}
use borrow.Author.Tests.{not-true}
use lib.IntN.{ℤ}
use Rattle.stops.specs.Answer.{gives, stop_at}
use Rattle.stops.specs.declared.Stop.{Stop}
use Rattle.grid.specs.Lists.{range}
use Rattle.grid.proofs.Lists.{range-on, range-end}
use Rattle.steps.specs.Loops.{first}
use Rattle.board.specs.code.Checks.{is_found}

either : (a b : Bool) (i : ℕ) (r : Option ℕ) → ((a || b) || is_found r) ≡ (a || is_found (cond b (some i) r))
either true b i r = refl
either false true i r = refl
either false false i r = refl

at-end : (a : Bool) → a ≡ (a || false)
at-end true = refl
at-end false = refl

-- the flag says whether anything below i passes, w whether anything does
module _ (f : ℕ → Bool) (n i : ℕ) (flag : Bool) {w : Bool} (left : (flag || is_found (first f (range (n - i) i))) ≡ w) where
  pub flag-on : {t : Bool} → i < n → t ≡ f i → ((flag || t) || is_found (first f (range (n - (i + 1)) (i + 1)))) ≡ w
  unfolding first
  flag-on {t} h at =
      ap (λ (b : Bool). (flag || b) || is_found (first f (range (n - (i + 1)) (i + 1)))) at
      ∙ either flag (f i) i (first f (range (n - (i + 1)) (i + 1)))
      ∙ ap (λ (o : Option ℕ). flag || is_found o) (sym (ap (first f) (range-on n i h))) ∙ left

  pub flag-end : n ≤ i → flag ≡ w
  unfolding first
  flag-end h = at-end flag ∙ ap (λ (o : Option ℕ). flag || is_found o) (sym (ap (first f) (range-end n i h))) ∙ left

-- where the flag is not up, nothing is refused
pub unflagged : (case : ℤ → Stop) (r : Option ℕ) {t : Bool} → t ≡ is_found r → not t ≡ true → gives tt ≡ stop_at case r
unflagged case r {t} e u = go r (sym e ∙ not-true t u)
  where
    go : (r : Option ℕ) → is_found r ≡ false → gives tt ≡ stop_at case r
    go none e = refl
    go (some i) e = absurd (true≢false e)
