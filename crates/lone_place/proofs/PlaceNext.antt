-- Place goes from a digit that is due to the next one: those between do nothing. Assumes nothing.
use mathlib.Core.Path.{◌≡◌, refl, sym, ◌∙◌, subst}
use mathlib.Core.Bool.{Bool, true, false}
use mathlib.Core.List.{List}
use Prim.Native.Nat.{ℕ, zero, suc, ◌+◌, ◌-◌, ◌≤◌, ◌<◌}
use native.Mathlib.Omega.{arith}
use Rattle.candidates.specs.Masks.{has, first_place}
use Rattle.candidates.proofs.Counts.{first-hit, first-miss, first-end}
use Rattle.grid.proofs.Lists.{turn-done}
use Rattle.steps.specs.Loops.{each, for, range}
use Rattle.steps.specs.code.Logs.{log_after}
use Rattle.steps.proofs.StepLogs.{log-idle, log-done}
use Rattle.lone_place.specs.code.Turns.{place_digit, digit_places}
use Rattle.lone_place.specs.code.Due.{Spares}
use Rattle.lone_place.proofs.Blocks.{place-digit}

module _ (g : List ℕ) (u due : ℕ) (m k : List ℕ) (w : Spares g u due m) where
  -- from digit j on the masks m and the log k come to what they come to from digit i on
  abbrev Same : ℕ → ℕ → Type 0
  Same j i = (each (place_digit g u) (range (9 - j) j) m ≡ each (place_digit g u) (range (9 - i) i) m) × (log_after g (for (range (9 - j) j) (digit_places u)) m k ≡ log_after g (for (range (9 - i) i) (digit_places u)) m k)

  past : (i : ℕ) → i < 9 → has due i ≡ false → Same (i + 1) i
  past i h t =
      let idle = w.idle i h t in
      let block = place-digit g u i m in (
        turn-done (place_digit g u) 9 i h (sym idle) refl,
        log-done g (digit_places u) 9 i m k h (sym idle ∙ block) (sym (log-idle g (digit_places u i) m k (sym block ∙ idle))) refl,
      )

  from : (n i : ℕ) → i + n ≡ 9 → Same (first_place (9 - i) i due) i
  from zero i h = subst (λ (j : ℕ). Same j i) (sym (first-end due i (omega arith))) (refl, refl)
  from (suc n) i h = go (has due i) refl (from n (i + 1) (omega arith))
    where
      go : (t : Bool) → has due i ≡ t → Same (first_place (9 - (i + 1)) (i + 1) due) (i + 1) → Same (first_place (9 - i) i due) i
      go true t later = subst (λ (j : ℕ). Same j i) (sym (first-hit due i (omega arith) t)) (refl, refl)
      go false t later =
          let now = past i (omega arith) t in
          subst (λ (j : ℕ). Same j i) (sym (first-miss due i (omega arith) t)) (later.0 ∙ now.0, later.1 ∙ now.1)

  pub next-due : (i : ℕ) {j : ℕ} → i ≤ 9 → j ≡ first_place (9 - i) i due → Same j i
  next-due i {j} h e = subst (λ (p : ℕ). Same p i) (sym e) (from (9 - i) i (omega arith))

-- the masks n and the log j after the turn of a digit, and what is left from the next digit that is due
pub turn-next : (g : List ℕ) (u d : ℕ) (m k : List ℕ) {n j M K : List ℕ} {due next : ℕ} → d < 9 → n ≡ place_digit g u d m → j ≡ log_after g (digit_places u d) m k → Spares g u due n → next ≡ first_place (9 - (d + 1)) (d + 1) due
    → each (place_digit g u) (range (9 - d) d) m ≡ M → log_after g (for (range (9 - d) d) (digit_places u)) m k ≡ K
    → (each (place_digit g u) (range (9 - next) next) n ≡ M) × (log_after g (for (range (9 - next) next) (digit_places u)) n j ≡ K)
turn-next g u d m k {n} {j} {due = due} h e o w p a b =
    let s = next-due g u due n j w (d + 1) (omega arith) p in
    (s.0 ∙ turn-done (place_digit g u) 9 d h e a, s.1 ∙ log-done g (digit_places u) 9 d m k h (e ∙ place-digit g u d m) o b)
