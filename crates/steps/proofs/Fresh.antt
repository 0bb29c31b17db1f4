-- Fresh masks: one for each cell, of the nine digits, and what an admissible board's masks can hold. Assumes nothing.
use mathlib.Core.Path.{◌≡◌, refl}
use mathlib.Core.List.{List, [], ◌∷◌}
use Prim.Native.Nat.{ℕ, suc, ◌-◌, ◌*◌, ◌≤◌, ◌<◌, zero-le}
use native.Mathlib.Nat.{lt_of_le_of_lt}
use native.Mathlib.Decide.{dec_lt}
use native.Mathlib.Omega.{arith}
use lib.Count.{ones-le}
use lib.Dec.{ltb, lit<}
use lib.ListN.{length}
use lib.Pow.{pow_mono}
use Rattle.candidates.specs.Masks.{minus, single, place_mask}
use Rattle.candidates.proofs.Order.{minus-sub, sub-le}
use Rattle.candidates.proofs.Tests.{by-test}
use Rattle.grid.proofs.Cells.{cells-size, at_cells, past-cells}
use Rattle.steps.specs.Boards.{at, given, is_open, given_mask, taken, fresh_at, fresh, Givens, Under, Admissible, total}
use Rattle.steps.proofs.Masks.{under-refl}

module _ (g : List ℕ) where
  pub fresh-length : length (fresh g) ≡ 81
  unfolding fresh
  fresh-length = cells-size (fresh_at g)

  pub fresh_at_lem : (c : ℕ) → c < 81 → at (fresh g) c ≡ fresh_at g c
  unfolding fresh
  fresh_at_lem c h = at_cells 0 (fresh_at g) c h

  pub fresh-out : (c : ℕ) → 81 ≤ c → at (fresh g) c ≡ 0
  unfolding fresh
  fresh-out c h = past-cells 0 (fresh_at g) c h

  pub fresh-admissible : Admissible g (fresh g)
  fresh-admissible = record { size = fresh-length; under = under-refl (fresh g); clues = λ c f. refl }

  module _ (ok : Givens g) where
    digit-small : (c : ℕ) → place_mask (given g c - 1) < 512
    digit-small c =
        by-test (λ (x : ℕ). x < 512) (ltb (given g c - 1) 16) (single (given g c - 1)) 0
        (λ t. omega (arith, pow_mono {i = given g c - 1} {j = 8} (omega (arith, ok.small c)))) (λ t. lit< tt)

    pub given_mask-small : (c : ℕ) → given_mask g c < 512
    given_mask-small c = by-test (λ (x : ℕ). x < 512) (is_open g c) 0 (place_mask (given g c - 1)) (λ t. lit< tt) (λ t. digit-small c)

    pub fresh_at-small : (c : ℕ) → fresh_at g c < 512
    fresh_at-small c =
        by-test (λ (x : ℕ). x < 512) (is_open g c) (minus 511 (taken g c)) (given_mask g c) (λ t. lt_of_le_of_lt (sub-le (minus-sub 511 (taken g c))) (lit< tt)) (λ t. given_mask-small c)

    pub fresh-small : (c : ℕ) → at (fresh g) c < 512
    fresh-small c = go (dec_lt c 81)
      where
        go : Dec (c < 81) → at (fresh g) c < 512
        go (yes h) = rw (fresh_at_lem c h) (fresh_at-small c)
        go (no h) = rw (fresh-out c (omega arith)) (lit< tt)

    pub mask-small : {m : List ℕ} → Under m (fresh g) → (c : ℕ) → at m c < 512
    mask-small p c = omega (arith, sub-le (p.at c), fresh-small c)

total-bound : (m : List ℕ) → ((c : ℕ) → at m c < 512) → total m ≤ 9 * length m
unfolding total
total-bound [] h = zero-le
total-bound (x ∷ xs) h = omega (arith, ones-le 9 x (h 0), total-bound xs (λ c. h (suc c)))

-- at most 729 candidates
pub total-most : (g m : List ℕ) → Givens g → Admissible g m → total m ≤ 729
total-most g m ok a = omega (arith, total-bound m (mask-small g ok a.under), a.size)
