-- The ported eliminations as whole passes: turn by turn in the paper's order, each turn the published pattern at that moment. Assumes nothing.
use mathlib.Core.Path.{◌≡◌, refl, ap, ◌∙◌}
use mathlib.Core.Logic.{◌↔◌, inl, inr}
use mathlib.Core.Bool.{Bool, true}
use mathlib.Core.List.{List}
use Prim.Native.Nat.{ℕ, ◌+◌, ◌<◌}
use native.Mathlib.Omega.{arith}
use Rattle.candidates.proofs.Order.{sub-le}
use Rattle.candidates.proofs.Tests.{by-test}
use Rattle.grid.specs.Units.{unit, unit_cell}
use Rattle.grid.proofs.Units.{at_place, cells-differ}
use Rattle.steps.specs.Boards.{at, is_open, Givens, Admissible}
use Rattle.steps.specs.Instances.{line_of}
use Rattle.steps.specs.Loops.{each, up_to, above}
use Rattle.steps.specs.Ported.{is_naked_pair, naked_pair_loss, naked_pair_at, naked_pairs, is_box_line, box_line_at, box_lines, is_x_wing, x_wing_at, x_wing_digit, x_wings}
use Rattle.steps.specs.Published.{Pointing, Turns, NakedPairTurn, PointingTurn, XWingTurn, NakedPairPass, BoxLinePass, XWingDigit, XWingPass}
use Rattle.steps.specs.Steps.{lose_all}
use Rattle.steps.proofs.Fresh.{mask-small}
use Rattle.steps.proofs.Loops.{in-up_to, in-above}
use Rattle.steps.proofs.Losses.{without-same}
use Rattle.steps.proofs.PassTurns.{each-turns, turn_by, Any}
use Rattle.steps.proofs.Published.{naked-pair, naked-pair-loses, naked-pair-none, pointing, pointing-loses, pointing-none, Line, x-wing, x-wing-loses, x-wing-none}
use Rattle.steps.proofs.Steps.{all_under}
use Rattle.steps.proofs.Instances.{line-below}

-- two numbers as one
paired : {t : Bool} {P : ℕ → ℕ → Type 0} → (t ≡ true) ↔ ((a : ℕ) × (b : ℕ) × P a b) → (t ≡ true) ↔ ((w : ℕ × ℕ) × P w.0 w.1)
paired {t} {P} test = (λ e. first (test.0 e), λ w. test.1 (w.0.0, w.0.1, w.1))
  where
    first : (a : ℕ) × (b : ℕ) × P a b → (w : ℕ × ℕ) × P w.0 w.1
    first w = ((w.0, w.1), w.2)

-- ---- naked pairs

abbrev Small : List ℕ → Type 0
Small m = (c : ℕ) → at m c < 512

module _ (g : List ℕ) where
  pair_small : (u c e : ℕ) (m : List ℕ) → Small m → Small (naked_pair_at g u c e m)
  unfolding naked_pair_at
  pair_small u c e m small =
      by-test Small (is_naked_pair g m c e) (lose_all (is_open g) (unit u) (naked_pair_loss m c e) m) m
      (λ t x. omega (arith, sub-le ((all_under (is_open g) (unit u) (naked_pair_loss m c e) m).at x), small x)) (λ t. small)

  pub naked-pair-turn : (u i j : ℕ) → u < 27 → i < j → j < 9 → (m : List ℕ) → Small m
      → (n : List ℕ) → NakedPairTurn g u (unit_cell u i) (unit_cell u j) m n ↔ (n ≡ naked_pair_at g u (unit_cell u i) (unit_cell u j) m)
  naked-pair-turn u i j h l k m small =
      turn_by (λ w x y. without-same) (is_naked_pair g m (unit_cell u i) (unit_cell u j))
      (paired (naked-pair g m small (at_place u i (omega arith)) (at_place u j k) (cells-differ u i j h (omega arith) k (omega arith))))
      (λ w s. naked-pair-loses g m h s) (naked-pair-none g m u (unit_cell u i) (unit_cell u j))

  pub naked-pairs : Givens g → (m : List ℕ) → Admissible g m → (n : List ℕ) → NakedPairPass g m n ↔ (n ≡ naked_pairs g m)
  unfolding naked_pairs
  naked-pairs ok m a =
      (each-turns Small (up_to 27)
      (λ u p. each-turns Small (up_to 9) (λ i q. each-turns Small (above i 9) (λ j r. turn u i j (in-up_to 27 u p) (in-above i 9 j r))))
      m (mask-small g ok a.under)).0
    where
      turn : (u i j : ℕ) → u < 0 + 27 → (i < j) × (j < 9) → (m : List ℕ) → Small m
          → ((n : List ℕ) → NakedPairTurn g u (unit_cell u i) (unit_cell u j) m n ↔ (n ≡ naked_pair_at g u (unit_cell u i) (unit_cell u j) m)) × Small (naked_pair_at g u (unit_cell u i) (unit_cell u j) m)
      turn u i j h r m small = (naked-pair-turn u i j (omega arith) (omega arith) (omega arith) m small, pair_small u (unit_cell u i) (unit_cell u j) m small)

  -- ---- box-line

  pub box-line-turn : (b d k : ℕ) → b < 9 → k < 6 → (m n : List ℕ) → PointingTurn g (18 + b) (line_of b k) d m n ↔ (n ≡ box_line_at g (18 + b) (line_of b k) d m)
  box-line-turn b d k h l m =
      turn_by (λ w x y. without-same) (is_box_line g m (18 + b) (line_of b k) d) (λ t. (tt, test.0 t), λ w. test.1 w.1)
      (λ w s. pointing-loses g m (omega arith) (line-below b k h l) d s) (pointing-none g m (omega arith) (line-below b k h l) d)
    where
      test : (is_box_line g m (18 + b) (line_of b k) d ≡ true) ↔ Pointing g m (18 + b) (line_of b k) d
      test = pointing g m (omega arith) (line-below b k h l) d

  pub box-lines : (m n : List ℕ) → BoxLinePass g m n ↔ (n ≡ box_lines g m)
  unfolding box_lines
  box-lines m =
      (each-turns Any (up_to 9)
      (λ b p. each-turns Any (up_to 9) (λ d q. each-turns Any (up_to 6) (λ k r n z. (box-line-turn b d k (in-up_to 9 b p) (in-up_to 6 k r) n, tt))))
      m tt).0

  -- ---- X-wing

  -- the lines from unit l on are crossed by those from unit k on
  module _ (l k : ℕ) (line : (r : ℕ) → r < 9 → Line k (l + r)) where
    pub x-wing-turn : (d r s : ℕ) → r < s → s < 9 → (o m n : List ℕ) → XWingTurn g o d (l + r) (l + s) m n ↔ (n ≡ x_wing_at g o k d (l + r) (l + s) m)
    x-wing-turn d r s p q o m =
        turn_by (λ w x y. without-same) (is_x_wing g o (l + r) (l + s) d) (paired (x-wing g o d (line r (omega arith)) (line s q) (omega arith)))
        (λ w t. x-wing-loses g o d (line r (omega arith)) (line s q) m t) (x-wing-none g o d (line r (omega arith)) (line s q) m)

    x-wing-digit : (d : ℕ) (m n : List ℕ) → XWingDigit g l d m n ↔ (n ≡ x_wing_digit g l k d m)
    unfolding x_wing_digit
    x-wing-digit d m =
        (each-turns Any (up_to 9) (λ r p. each-turns Any (above r 9) (λ s q n z. (turn r s (in-above r 9 s q) n, tt))) m tt).0
      where
        turn : (r s : ℕ) → (r < s) × (s < 9) → (m' n : List ℕ) → XWingTurn g m d (l + r) (l + s) m' n ↔ (n ≡ x_wing_at g m k d (l + r) (l + s) m')
        turn r s q m' = x-wing-turn d r s (omega arith) (omega arith) m m'

    x-wing-digits : (m n : List ℕ) → Turns (XWingDigit g l) (up_to 9) m n ↔ (n ≡ each (x_wing_digit g l k) (up_to 9) m)
    x-wing-digits m = (each-turns Any (up_to 9) (λ d p n z. (x-wing-digit d n, tt)) m tt).0

  pub x-wings : (m n : List ℕ) → XWingPass g m n ↔ (n ≡ x_wings g m)
  unfolding x_wings
  x-wings m n = (there, λ e. record { between = half; rows = (first half).1 refl; columns = (second half n).1 e })
    where
      half : List ℕ
      half = each (x_wing_digit g 0 9) (up_to 9) m

      first : (n : List ℕ) → Turns (XWingDigit g 0) (up_to 9) m n ↔ (n ≡ half)
      first = x-wing-digits 0 9 (λ r h. inl (omega arith, refl)) m

      second : (m n : List ℕ) → Turns (XWingDigit g 9) (up_to 9) m n ↔ (n ≡ each (x_wing_digit g 9 0) (up_to 9) m)
      second = x-wing-digits 9 0 (λ r h. inr (omega arith, omega arith, refl))

      there : XWingPass g m n → n ≡ each (x_wing_digit g 9 0) (up_to 9) half
      there w = (second w.between n).0 w.columns ∙ ap (each (x_wing_digit g 9 0) (up_to 9)) ((first w.between).0 w.rows)
