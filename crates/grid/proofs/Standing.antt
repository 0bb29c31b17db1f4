-- The verifier's loops: where they start, one more cell, and a no, which stays. Assumes nothing.
use mathlib.Core.Path.{◌≡◌, refl, sym, ap, ◌∙◌, subst}
use mathlib.Core.Bool.{Bool, true, false, cond, ◌&&◌, false≢true}
use mathlib.Core.List.{List}
use Prim.Native.Nat.{ℕ, suc, ◌+◌, ◌≤◌}
use native.Mathlib.Numerals.{add-one}
use lib.IntN.{ℤ}
use lib.ListN.{replicate}
use Rattle.candidates.proofs.Tests.{bool_iff}
use Rattle.grid.specs.Fillings.{number_at}
use Rattle.grid.specs.Marks.{fits, marked, marks_after, fine}
use Rattle.grid.specs.code.Standing.{Standing}
use Rattle.grid.proofs.Marks.{fine-first}

pub standing-start : (g : List ℤ) → Standing g 0 true (replicate 27 0)
unfolding marks_after fine
standing-start g = record { answer = refl; marks = λ e. refl }

next : {g : List ℤ} {k : ℕ} {ms : List ℕ} → Standing g k true ms → (r : Bool) (ns : List ℕ) → r ≡ fits ms k (number_at g k) → ns ≡ cond r (marked ms k (number_at g k)) ms → Standing g (suc k) r ns
unfolding marks_after fine
next {g} {k} {ms} s r ns e is = record {
  answer = e ∙ ap (λ (ms : List ℕ). fits ms k (number_at g k)) now ∙ ap (λ (t : Bool). t && fits (marks_after g k) k (number_at g k)) s.answer;
  marks = λ t. is ∙ ap (λ (b : Bool). cond b (marked ms k (number_at g k)) ms) t ∙ ap (λ (ms : List ℕ). marked ms k (number_at g k)) now;
}
  where
    now : ms ≡ marks_after g k
    now = s.marks refl

-- one turn of the code, on the number z of the cell, is one turn of the definition
pub standing_on : {g : List ℤ} {k : ℕ} {ms ns : List ℕ} {r : Bool} {z : ℤ} → Standing g k true ms → z ≡ number_at g k → r ≡ fits ms k z → ns ≡ cond r (marked ms k z) ms → Standing g (k + 1) r ns
standing_on {g} {k} {ms} {ns} {r} s q e is =
    rw add-one (next s r ns (e ∙ ap (fits ms k) q) (is ∙ ap (λ (z : ℤ). cond r (marked ms k z) ms) q))

-- a no stays
pub stays-no : {g : List ℤ} {k : ℕ} {r : Bool} {ms : List ℕ} → Standing g k r ms → r ≡ false → (n : ℕ) → k ≤ n → false ≡ fine g n
stays-no {g} {k} s e n h = bool_iff false (fine g n) (λ t. absurd (false≢true t)) (λ t. sym e ∙ s.answer ∙ fine-first g k n h t)

pub standing-no : {g : List ℤ} {k : ℕ} {r : Bool} {ms : List ℕ} → Standing g k r ms → r ≡ false → (n : ℕ) → k ≤ n → (ns : List ℕ) → Standing g n false ns
standing-no s e n h ns = record { answer = stays-no s e n h; marks = λ t. absurd (false≢true t) }

-- after a yes it goes on
pub standing-yes : {g : List ℤ} {k : ℕ} {r : Bool} {ms : List ℕ} → Standing g k r ms → r ≡ true → (n : ℕ) → k ≡ n → Standing g n true ms
standing-yes {g} {k} {r} {ms} s e n p = subst (λ (j : ℕ). Standing g j true ms) p (subst (λ (t : Bool). Standing g k t ms) e s)
