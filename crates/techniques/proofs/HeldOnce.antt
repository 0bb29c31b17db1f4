-- A digit that just one of nine masks holds is one that has just one place. Assumes nothing.
use mathlib.Core.Path.{◌≡◌, refl, sym, ◌∙◌}
use mathlib.Core.Bool.{Bool, true, false, true≢false}
use mathlib.Core.List.{List}
use Prim.Native.Nat.{ℕ, ◌<◌, ◌^◌}
use native.Mathlib.Decide.{ℕ_discrete}
use native.Mathlib.Omega.{arith}
use borrow.Author.Tests.{eq-eqb, ne_eqb}
use lib.Dec.{eqb}
use Rattle.candidates.specs.Masks.{has, count, lowest}
use Rattle.candidates.proofs.FewDigits.{One, one-count, count-one}
use Rattle.candidates.proofs.Held.{Held, held_below, held-sub, held-minus, has-gather}
use Rattle.candidates.proofs.Membership.{gather-lt}
use Rattle.steps.specs.Boards.{at}
use Rattle.cells.specs.code.Places.{spots_in}
use Rattle.cells.specs.code.Unions.{joined, shared_of}
use Rattle.cells.proofs.Shared.{union-at, joined-held, Twice, shared-twice, twice-shared}
use Rattle.techniques.specs.code.Singles.{once_of}

module _ (nine : List ℕ) (d : ℕ) where
  pub spots-lt : spots_in nine d < 2 ^ 9
  unfolding spots_in
  spots-lt = gather-lt (λ i. has (at nine i) d) 9

  pub spot : (i : ℕ) → Held (spots_in nine d) i → (i < 9) × Held (at nine i) d
  unfolding spots_in
  spot i t =
      let h = held_below (spots_in nine d) 9 i spots-lt t in
      (h, sym (has-gather (λ i. has (at nine i) d) 9 i h) ∙ t)

  pub is-spot : (i : ℕ) → i < 9 → Held (at nine i) d → Held (spots_in nine d) i
  unfolding spots_in
  is-spot i h t = has-gather (λ i. has (at nine i) d) 9 i h ∙ t

  once-one : Held (once_of nine) d → count (spots_in nine d) ≡ 1
  once-one t =
      let w = (held-minus (joined nine) (shared_of nine) d).0 t in
      let p = joined-held nine d w.0 in
      one-count {d = p.0} (record { held = is-spot p.0 p.1 p.2; alone = λ j s. alone w.1 p.0 p.1 p.2 j (spot j s) (ℕ_discrete j p.0) })
    where
      alone : (Held (shared_of nine) d → ⊥) → (i : ℕ) → i < 9 → Held (at nine i) d → (j : ℕ) → (j < 9) × Held (at nine j) d → Dec (j ≡ i) → j ≡ i
      alone n i h t j s (yes e) = e
      alone n i h t j s (no k) = absurd (n (twice-shared nine d j i s.0 h k s.1 t))

  one-once : count (spots_in nine d) ≡ 1 → Held (once_of nine) d
  unfolding joined
  one-once e =
      let o = count-one (spots_in nine d) (omega (arith, spots-lt)) e in
      let s = spot (lowest (spots_in nine d)) o.held in
      (held-minus (joined nine) (shared_of nine) d).1 (held-sub d (union-at (at nine) 9 (lowest (spots_in nine d)) s.0) s.1, λ t. twice o (shared-twice nine d t))
    where
      twice : {i : ℕ} → One (spots_in nine d) i → Twice nine d → ⊥
      twice {i} o w =
          let a = o.alone w.first (is-spot w.first (omega (arith, w.rise, w.below)) w.held₁) in
          let b = o.alone w.second (is-spot w.second w.below w.held₂) in
          omega (arith, a, b, w.rise)

  pub once_is : has (once_of nine) d ≡ eqb (count (spots_in nine d)) 1
  once_is = go (has (once_of nine) d) refl
    where
      go : (t : Bool) → has (once_of nine) d ≡ t → has (once_of nine) d ≡ eqb (count (spots_in nine d)) 1
      go true e = e ∙ sym (eq-eqb (count (spots_in nine d)) 1 (once-one e))
      go false e = e ∙ sym (ne_eqb (count (spots_in nine d)) 1 (λ q. true≢false (sym (one-once q) ∙ e)))
