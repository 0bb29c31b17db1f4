-- A unit and those that meet it: which places they share, and what one of them loses outside the unit. Assumes nothing.
use mathlib.Core.Path.{◌≡◌, sym, ap, ◌∙◌, subst}
use mathlib.Core.Bool.{Bool, true, false, cond, not}
use mathlib.Core.List.{List}
use Prim.Native.Nat.{ℕ, ◌+◌, ◌-◌, ◌≤◌, ◌<◌}
use native.Mathlib.Decide.{dec_lt}
use native.Mathlib.Omega.{arith}
use borrow.Author.Tests.{lt-ltb, le-ltb}
use lib.Dec.{T, eqb, ltb}
use Rattle.candidates.specs.Masks.{has, minus, count, single, place_mask}
use Rattle.candidates.proofs.Counts.{test-none}
use Rattle.candidates.proofs.Tests.{all_below, below, below_both, implies, implied, cond-true, cond-false}
use Rattle.grid.specs.Units.{units, unit, unit_cell, in_unit}
use Rattle.steps.specs.Boards.{is_open}
use Rattle.steps.specs.Instances.{line_of, box_of}
use Rattle.steps.specs.Steps.{lose_all}
use Rattle.steps.proofs.Instances.{line-below, box-below}
use Rattle.cells.specs.code.Places.{lose_places}
use Rattle.cells.specs.code.Meets.{meetings, met_places, met_back, outside, box_unit, line_unit, met_unit, meet_turn}
use Rattle.cells.proofs.NineBits.{place_is}
use Rattle.cells.proofs.UnitPlaces.{agree, agreed, spared-lose}

-- ---- one turn of the code

module _ (g : List ℕ) (u d held k : ℕ) (m : List ℕ) {on rest : ℕ} (is-on : on ≡ met_places k) (is-rest : rest ≡ minus held on) where
  test : eqb (minus held (met_places k)) 0 ≡ eqb (count rest) 0
  test = ap (λ (x : ℕ). eqb x 0) (sym (is-rest ∙ ap (minus held) is-on)) ∙ test-none rest

  pub met-lost : {v out one : ℕ} → v ≡ met_unit u k → out ≡ outside u k → one ≡ place_mask d → eqb (count rest) 0 ≡ true → lose_places (is_open g) v out one m ≡ meet_turn g u d held k m
  unfolding meet_turn
  met-lost p q r t = rw (p, q, r) (sym (cond-true (eqb (minus held (met_places k)) 0) (lose_places (is_open g) (met_unit u k) (outside u k) (place_mask d) m) m (test ∙ t)))

  pub met-kept : eqb (count rest) 0 ≡ false → m ≡ meet_turn g u d held k m
  unfolding meet_turn
  met-kept t = sym (cond-false (eqb (minus held (met_places k)) 0) (lose_places (is_open g) (met_unit u k) (outside u k) (place_mask d) m) m (test ∙ t))

-- ---- how many meet a unit, and which they are

pub three-boxes : {l : ℕ} → l < 18 → meetings l ≡ 3
unfolding meetings
three-boxes {l} h = cond-true (ltb l 18) 3 6 (lt-ltb l 18 h)

pub six-lines : {u : ℕ} → 18 ≤ u → meetings u ≡ 6
unfolding meetings
six-lines {u} h = cond-false (ltb u 18) 3 6 (le-ltb u 18 h)

pub met-box : {l k : ℕ} → l < 18 → k < 3 → met_unit l k ≡ box_of l k
unfolding met_unit box_unit
met-box {l} {k} h n = cond-true (ltb l 18) (box_unit l k) (line_unit (l - 18) k) (lt-ltb l 18 h) ∙ cond-true (ltb k 3) (box_of l k) 27 (lt-ltb k 3 n)

pub met-line : {b k : ℕ} → b < 9 → k < 6 → met_unit (18 + b) k ≡ line_of b k
unfolding met_unit line_unit
met-line {b} {k} h n =
    let z : 18 + b - 18 ≡ b = omega arith in
    cond-false (ltb (18 + b) 18) (box_unit (18 + b) k) (line_unit (18 + b - 18) k) (le-ltb (18 + b) 18 (omega arith))
    ∙ ap (λ (x : ℕ). line_unit x k) z
    ∙ cond-true (ltb b 9) (cond (ltb k 6) (line_of b k) 27) 27 (lt-ltb b 9 h) ∙ cond-true (ltb k 6) (line_of b k) 27 (lt-ltb k 6 n)

-- ---- the two kinds of places, by one test over all units, those that meet them, and places

module _ (u k : ℕ) (hu : u < 27) (hk : k < meetings u) where
  few : k < 6
  few = go (dec_lt u 18)
    where
      go : Dec (u < 18) → k < 6
      go (yes h) = omega (arith, three-boxes h, hk)
      go (no h) = omega (arith, six-lines {u = u} (omega arith), hk)

  -- what a test says of all of them, it says of these
  tested : (test : ℕ → ℕ → ℕ → Bool) → T (all_below 27 λ u. all_below 6 λ k. implies (ltb k (meetings u)) (all_below 9 (test u k))) → (i : ℕ) → i < 9 → T (test u k i)
  tested test all i h =
      below 9 (test u k)
      (implied (ltb k (meetings u)) (all_below 9 (test u k)) (below_both 27 6 (λ u k. implies (ltb k (meetings u)) (all_below 9 (test u k))) all u k hu few) (lt-ltb k (meetings u) hk)) i h

  pub on-met : (i : ℕ) → i < 9 → has (met_places k) i ≡ in_unit (met_unit u k) (unit_cell u i)
  unfolding unit units meetings met_places met_unit box_unit line_unit agree
  on-met i h = agreed (has (met_places k) i) (in_unit (met_unit u k) (unit_cell u i)) (tested (λ u k i. agree (has (met_places k) i) (in_unit (met_unit u k) (unit_cell u i))) tt i h)

  pub off-met : (i : ℕ) → i < 9 → has (outside u k) i ≡ not (in_unit u (unit_cell (met_unit u k) i))
  unfolding unit units meetings met_places met_back outside met_unit box_unit line_unit agree
  off-met i h =
      agreed (has (outside u k) i) (not (in_unit u (unit_cell (met_unit u k) i)))
      (tested (λ u k i. agree (has (outside u k) i) (not (in_unit u (unit_cell (met_unit u k) i)))) tt i h)

  pub met-below : met_unit u k < 27
  met-below = go (dec_lt u 18)
    where
      go : Dec (u < 18) → met_unit u k < 27
      go (yes h) = subst (λ (v : ℕ). v < 27) (sym (met-box h n)) (box-below u k h n)
        where
          n : k < 3
          n = omega (arith, three-boxes h, hk)
      go (no h) =
          let z : 18 + (u - 18) ≡ u = omega arith in
          subst (λ (v : ℕ). v < 27) (sym (met-line (omega arith) few) ∙ ap (λ (x : ℕ). met_unit x k) z) (line-below (u - 18) k (omega arith) few)

  -- its cells outside the unit
  pub met-lose : (g : List ℕ) (d : ℕ) → d < 9 → (m : List ℕ) → lose_places (is_open g) (met_unit u k) (outside u k) (place_mask d) m ≡ lose_all (is_open g) (unit (met_unit u k)) (λ e. cond (in_unit u e) 0 (single d)) m
  met-lose g d hd m =
      spared-lose (met_unit u k) met-below (is_open g) (outside u k) (place_mask d) (in_unit u) off-met m
      ∙ ap (λ (x : ℕ). lose_all (is_open g) (unit (met_unit u k)) (λ e. cond (in_unit u e) 0 x) m) (place_is d hd)
