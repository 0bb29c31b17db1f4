-- The first unit of which anything is due: nothing is of those before it. Assumes nothing.
use mathlib.Core.Path.{◌≡◌, sym, ap, ◌∙◌, subst}
use mathlib.Core.List.{List}
use Prim.Native.Nat.{ℕ, ◌+◌, ◌-◌, ◌≤◌, ◌<◌}
use native.Mathlib.Decide.{dec_lt}
use native.Mathlib.Omega.{arith}
use Rattle.candidates.specs.Masks.{Sub}
use Rattle.candidates.proofs.Order.{sub-antisym, sub-none}
use Rattle.grid.proofs.Lists.{at-up_to}
use Rattle.steps.specs.Boards.{at}
use Rattle.cells.specs.code.Unions.{joined}
use Rattle.cells.proofs.Shared.{union-at}
use Rattle.locked.specs.code.Rests.{unit_due, nine_due, NoneIn, NoneDue}

-- ---- among nine sets

-- sets that hold nothing together hold nothing each
pub none-joined : (sets : List ℕ) → joined sets ≡ 0 → NoneIn sets 9
unfolding joined
none-joined sets e = record { most = omega arith; none = λ k h. sub-antisym (subst (Sub (at sets k)) e (union-at (at sets) 9 k h)) (sub-none (at sets k)) }

-- ---- among the units

module _ (r : List ℕ) where
  pub none-nine : (first : ℕ) {sets : List ℕ} {n s : ℕ} → sets ≡ nine_due r first → NoneIn sets n → s ≡ first + n → NoneDue r first s
  unfolding nine_due
  none-nine first {sets} {n} {s} is w e = record { from = omega arith; none = one }
    where
      one : (u : ℕ) → first ≤ u → u < s → unit_due r u ≡ 0
      one u from to =
          let back : first + (u - first) ≡ u = omega arith in
          let k : u - first < n = omega (arith, e) in
          ap (unit_due r) (sym back) ∙ sym (at-up_to (λ i. unit_due r (first + i)) 0 9 (u - first) (omega (arith, w.most))) ∙ ap (λ (xs : List ℕ). at xs (u - first)) (sym is) ∙ w.none (u - first) k

  -- these, and those after them
  pub none_then : {first a b n : ℕ} → NoneDue r first a → b ≤ a → NoneDue r b n → first ≤ b → NoneDue r first n
  none_then {first} {a} {b} {n} v meet w rise = record { from = omega (arith, w.from); none = λ u from to. go u from to (dec_lt u b) }
    where
      go : (u : ℕ) → first ≤ u → u < n → Dec (u < b) → unit_due r u ≡ 0
      go u from to (yes l) = v.none u from (omega arith)
      go u from to (no l) = w.none u (omega arith) to
