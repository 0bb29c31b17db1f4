-- Masks of the places of a unit: one place, all but two, and a loss that leaves some cells out. Assumes nothing.
use mathlib.Core.Path.{◌≡◌, refl, sym, ap, ◌∙◌}
use mathlib.Core.Bool.{Bool, true, false, cond, not, ◌&&◌, ◌||◌}
use mathlib.Core.List.{List}
use Prim.Native.Nat.{ℕ, ◌<◌}
use lib.Dec.{T, eqb}
use Rattle.candidates.specs.Masks.{has, minus, single}
use Rattle.candidates.proofs.Held.{has-power, has-minus}
use Rattle.candidates.proofs.Tests.{eqb-iff}
use Rattle.grid.specs.Units.{unit, unit_cell}
use Rattle.grid.proofs.Units.{same_place}
use Rattle.steps.specs.Steps.{lose_all}
use Rattle.cells.specs.code.Places.{lose_places, all_but}
use Rattle.cells.proofs.NineBits.{has-except}
use Rattle.cells.proofs.Places.{places-lose}

-- two tests that say the same, as a test
unfoldable pub agree : Bool → Bool → Bool
agree true t = t
agree false t = not t

pub agreed : (s t : Bool) → T (agree s t) → s ≡ t
unfolding agree
agreed true true a = refl
agreed true false a = absurd a
agreed false true a = absurd a
agreed false false a = refl

-- ---- one place, and all but two

pub has-all_but : (i j l : ℕ) → l < 9 → has (all_but i j) l ≡ not (eqb l i || eqb l j)
has-all_but i j l b =
    has-minus (minus 511 (single i)) (single j) l
    ∙ ap (λ (t : Bool). t && not (has (single j) l)) (has-except (single i) l b ∙ ap not (has-power i l))
    ∙ ap (λ (t : Bool). not (eqb l i) && not t) (has-power j l)
    ∙ neither (eqb l i) (eqb l j)
  where
    neither : (p q : Bool) → (not p && not q) ≡ not (p || q)
    neither true q = refl
    neither false q = refl

module _ (u : ℕ) (h : u < 27) where
  same-cell : (i j : ℕ) → i < 9 → j < 9 → eqb (unit_cell u j) (unit_cell u i) ≡ eqb j i
  same-cell i j l n = eqb-iff (unit_cell u j) (unit_cell u i) j i (same_place u j i h n l) (ap (unit_cell u))

  -- a place, by its cell
  pub has-place : (i j : ℕ) → i < 9 → j < 9 → has (single i) j ≡ eqb (unit_cell u j) (unit_cell u i)
  has-place i j l n = has-power i j ∙ sym (same-cell i j l n)

  -- the cells at two places, and no others
  two_cells : (i j l : ℕ) → i < 9 → j < 9 → l < 9 → (eqb (unit_cell u l) (unit_cell u i) || eqb (unit_cell u l) (unit_cell u j)) ≡ (eqb l i || eqb l j)
  two_cells i j l a b d = ap (λ (t : Bool). t || eqb (unit_cell u l) (unit_cell u j)) (same-cell i l a d) ∙ ap (λ (t : Bool). eqb l i || t) (same-cell j l b d)

  -- ---- the cells that a test leaves out keep what they have

  pub spared-lose : (free : ℕ → Bool) (places k : ℕ) (spared : ℕ → Bool) → ((i : ℕ) → i < 9 → has places i ≡ not (spared (unit_cell u i))) → (m : List ℕ)
      → lose_places free u places k m ≡ lose_all free (unit u) (λ e. cond (spared e) 0 k) m
  spared-lose free places k spared says = places-lose free u h places k (λ e. cond (spared e) 0 k) (λ i l. unless (spared (unit_cell u i)) (has places i) (says i l))
    where
      unless : (t p : Bool) → p ≡ not t → cond t 0 k ≡ cond p k 0
      unless true p e = rw e
      unless false p e = rw e

  -- the cells at places i and j
  pub two-spared : (free : ℕ → Bool) (i j k : ℕ) → i < 9 → j < 9 → (m : List ℕ)
      → lose_places free u (all_but i j) k m ≡ lose_all free (unit u) (λ e. cond (eqb e (unit_cell u i) || eqb e (unit_cell u j)) 0 k) m
  two-spared free i j k hi hj m =
      spared-lose free (all_but i j) k (λ e. eqb e (unit_cell u i) || eqb e (unit_cell u j)) (λ l n. has-all_but i j l n ∙ ap not (sym (two_cells i j l hi hj n))) m
