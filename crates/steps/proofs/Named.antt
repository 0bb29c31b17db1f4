-- Every instance that module 8 names by cells, units and digits is one of the lists, whichever of two cells, digits or lines is named first. Assumes nothing.
use mathlib.Core.Path.{◌≡◌, sym, ap, ◌∙◌, subst}
use mathlib.Core.Logic.Iff
use mathlib.Core.Logic.{◌≢◌, ◌⊎◌, ◌↔◌, inl, inr, ⊎_elim}
use mathlib.Core.Bool.{Bool, cond}
use mathlib.Core.List.{List, Memᴰ}
use Prim.Native.Nat.{ℕ, ◌+◌, ◌-◌, ◌*◌, ◌/◌, ◌%◌, ◌≤◌, ◌<◌}
use native.Mathlib.Decide.{dec_lt}
use native.Mathlib.Omega.{arith}
use borrow.Author.Tests.{ltb-true, lt-ltb, le-ltb}
use lib.Dec.{ltb}
use Rattle.candidates.proofs.Tests.{below_both, by-test, cond-true, cond-false, T_true}
use Rattle.grid.specs.Cells.{box}
use Rattle.grid.specs.Units.{units, unit, unit_cell, in_unit, Member}
use Rattle.grid.proofs.Units.{cell_below, at_place, in-member}
use Rattle.steps.specs.Instances.{Instance, lone, place, pair, pointing, claiming, cross, exchanged, line_of, box_of}
use Rattle.steps.specs.Passes.{Kind, Lone, Place, Pair, Pointing, Claiming, Cross, instances}
use Rattle.steps.specs.Published.{NakedPairLoss, LockedLoss, Rows, Columns, Crossing, XWingLoss}
use Rattle.steps.specs.Wide.{LoneCell, LoneLoss, OnlyPlace, PlaceLoss, PairCells, Locked, Meets, CrossCells, Condition, Loss}
use Rattle.steps.proofs.Instances.{lone-listed, place-listed, pair-listed, pointing-listed, claiming-listed, cross-listed, exchanged-listed, line-below, box-below}
use Rattle.steps.proofs.Members.{member-row, member-col, member-box}

-- ---- a box and its lines

-- the place in a box of a cell on the k-th of its lines
abbrev on_line : ℕ → ℕ
on_line k = cond (ltb k 3) (3 * k) (k - 3)

pub line-meets : (b k : ℕ) → b < 9 → k < 6 → Meets (18 + b) (line_of b k)
unfolding unit units
line-meets b k h l =
    record {
      box = omega arith;
      line = by-test (λ (v : ℕ). v < 18) (ltb k 3) (3 * (b / 3) + k) (9 + (3 * (b % 3) + (k - 3))) (λ t. omega arith) (λ t. omega arith);
      shared = unit_cell (18 + b) (on_line k);
      in_box = at_place (18 + b) (on_line k) place;
      in_line = in-member (line_of b k) (unit_cell (18 + b) (on_line k)) (line-below b k h l) (cell_below (18 + b) (on_line k) (omega arith) place) (T_true (meet b k) (below_both 9 6 meet tt b k h l));
    }
  where
    place : on_line k < 9
    place = by-test (λ (i : ℕ). i < 9) (ltb k 3) (3 * k) (k - 3) (λ t. omega (arith, ltb-true k 3 t)) (λ t. omega arith)

    meet : ℕ → ℕ → Bool
    meet b k = in_unit (line_of b k) (unit_cell (18 + b) (on_line k))

-- the numbers of a box and a line of it
record Line (u v : ℕ) : Type 0 where
  b : ℕ
  k : ℕ
  low₁ : b < 9
  low₂ : k < 6
  is₁ : 18 + b ≡ u
  is₂ : line_of b k ≡ v

meets-line : {u v : ℕ} → Meets u v → Line u v
meets-line {u} {v} w = go (dec_lt v 9)
  where
    boxed : 18 + box w.shared ≡ u
    boxed = member-box w.in_box w.box.0 w.box.1

    go : Dec (v < 9) → Line u v
    go (yes h) =
        let q = member-row w.in_line h in
        record {
          b = u - 18;
          k = v % 3;
          low₁ = omega (arith, w.box);
          low₂ = omega arith;
          is₁ = omega (arith, w.box);
          is₂ = cond-true (ltb (v % 3) 3) _ _ (lt-ltb (v % 3) 3 (omega arith)) ∙ omega (arith, boxed);
        }
    go (no h) =
        let q = member-col w.in_line (omega arith) w.line in
        record {
          b = u - 18;
          k = 3 + (v - 9) % 3;
          low₁ = omega (arith, w.box);
          low₂ = omega arith;
          is₁ = omega (arith, w.box);
          is₂ = cond-false (ltb (3 + (v - 9) % 3) 3) _ _ (le-ltb (3 + (v - 9) % 3) 3 (omega arith)) ∙ omega (arith, boxed);
        }

-- the place in a line of a cell in the k-th of its boxes is 3 * k
pub box-meets : (l k : ℕ) → l < 18 → k < 3 → Meets (box_of l k) l
unfolding unit units
box-meets l k h n =
    record {
      box = by-test (λ (v : ℕ). (18 ≤ v) × (v < 27)) (ltb l 9) _ _ (λ t. omega (arith, ltb-true l 9 t)) (λ t. omega arith);
      line = h;
      shared = unit_cell l (3 * k);
      in_box = in-member (box_of l k) (unit_cell l (3 * k)) (box-below l k h n) (cell_below l (3 * k) (omega arith) (omega arith)) (T_true (meet l k) (below_both 18 3 meet tt l k h n));
      in_line = at_place l (3 * k) (omega arith);
    }
  where
    meet : ℕ → ℕ → Bool
    meet l k = in_unit (box_of l k) (unit_cell l (3 * k))

-- the number of a line's box
record Box (u v : ℕ) : Type 0 where
  k : ℕ
  low : k < 3
  is : box_of u k ≡ v

meets-box : {u v : ℕ} → Meets v u → Box u v
meets-box {u} {v} w = go (dec_lt u 9)
  where
    boxed : 18 + box w.shared ≡ v
    boxed = member-box w.in_box w.box.0 w.box.1

    go : Dec (u < 9) → Box u v
    go (yes h) =
        let q = member-row w.in_line h in
        record { k = (v - 18) % 3; low = omega arith; is = cond-true (ltb u 9) _ _ (lt-ltb u 9 h) ∙ omega (arith, boxed) }
    go (no h) =
        let q = member-col w.in_line (omega arith) w.line in
        record { k = (v - 18) / 3; low = omega (arith, w.box); is = cond-false (ltb u 9) _ _ (le-ltb u 9 (omega arith)) ∙ omega (arith, boxed) }

swap : {A B : Type 0} → A ⊎ B → B ⊎ A
swap (inl a) = inr a
swap (inr b) = inl b

-- what holds of two and two rising numbers, in whatever order each two are named, holds of two and two different ones
two-and-two : (P : ℕ → ℕ → ℕ → ℕ → Type 0) → ((i j a b : ℕ) → P i j a b → P j i a b) → ((i j a b : ℕ) → P i j a b → P i j b a)
    → ((i j a b : ℕ) → i < j → j < 9 → a < b → b < 9 → P i j a b) → (i j a b : ℕ) → i < 9 → j < 9 → i ≢ j → a < 9 → b < 9 → a ≢ b → P i j a b
two-and-two P first second rising i j a b hi hj ij ha hb ab = go (dec_lt i j) (dec_lt a b)
  where
    go : Dec (i < j) → Dec (a < b) → P i j a b
    go (yes l) (yes k) = rising i j a b l hj k hb
    go (yes l) (no k) = second i j b a (rising i j b a l hj (omega arith) ha)
    go (no l) (yes k) = first j i a b (rising j i a b (omega arith) hi k hb)
    go (no l) (no k) = first j i a b (second j i b a (rising j i b a (omega arith) hi (omega arith) ha))

-- ---- the six kinds

module _ (g m : List ℕ) where
  -- a condition and a loss that are those of a listed instance
  pub record Listed (condition : Type 0) (loss : ℕ → ℕ → Type 0) : Type 0 where
    pub kind : Kind
    pub instance : Instance
    pub listed : Memᴰ instance (instances kind)
    pub when : condition → Condition m instance
    pub what : (e d : ℕ) → loss e d ↔ Loss g instance e d

  itself : (k : Kind) (x : Instance) → Memᴰ x (instances k) → Listed (Condition m x) (Loss g x)
  itself k x l = record { kind = k; instance = x; listed = l; when = λ w. w; what = λ e d. Iff.rfl }

  -- the same in other words
  again : {A B : Type 0} {l k : ℕ → ℕ → Type 0} → (B → A) → ((e d : ℕ) → k e d → l e d) → ((e d : ℕ) → l e d → k e d) → Listed A l → Listed B k
  again f there back x = record { kind = x.kind; instance = x.instance; listed = x.listed; when = λ w. x.when (f w); what = λ e d. Iff.trans (there e d, back e d) (x.what e d) }

  pub lone-named : (c d : ℕ) → c < 81 → d < 9 → Listed (LoneCell m c d) (LoneLoss g c d)
  lone-named c d hc hd = itself Lone (lone c d) (lone-listed c d hc hd)

  pub place-named : (u d c : ℕ) → u < 27 → d < 9 → Member u c → Listed (OnlyPlace m u d c) (PlaceLoss g d c)
  place-named u d c hu hd p =
      subst (λ (e : ℕ). Listed (OnlyPlace m u d e) (PlaceLoss g d e)) p.is (itself Place (place u d p.place) (place-listed u d p.place hu hd p.within))

  pub pair-named : (u c e a b : ℕ) → u < 27 → Member u c → Member u e → c ≢ e → a < 9 → b < 9 → a ≢ b → Listed (PairCells m c e a b) (NakedPairLoss g u c e a b)
  pair-named u c e a b hu p q apart ha hb digits =
      subst (λ (x : ℕ). Of x e a b) p.is (subst (λ (x : ℕ). Of (unit_cell u p.place) x a b) q.is
      (two-and-two (λ i j a b. Of (unit_cell u i) (unit_cell u j) a b)
      (λ i j a b. again (λ w. record { first = w.second; second = w.first }) cells cells)
      (λ i j a b. again (λ w. record { first = λ d l t. swap (w.first d l t); second = λ d l t. swap (w.second d l t) }) other-digits other-digits)
      (λ i j a b ij hj ab hb. itself Pair (pair u i j a b) (pair-listed u i j a b hu ij hj ab hb))
      p.place q.place a b p.within q.within (λ z. apart (sym p.is ∙ ap (unit_cell u) z ∙ q.is)) ha hb digits))
    where
      Of : ℕ → ℕ → ℕ → ℕ → Type 0
      Of c e a b = Listed (PairCells m c e a b) (NakedPairLoss g u c e a b)

      cells : {c e a b : ℕ} (x d : ℕ) → NakedPairLoss g u c e a b x d → NakedPairLoss g u e c a b x d
      cells x d l = record { member = l.member; free = l.free; other₁ = l.other₂; other₂ = l.other₁; digit = l.digit }

      other-digits : {c e a b : ℕ} (x d : ℕ) → NakedPairLoss g u c e a b x d → NakedPairLoss g u c e b a x d
      other-digits x d l = record { member = l.member; free = l.free; other₁ = l.other₁; other₂ = l.other₂; digit = swap l.digit }

  pub pointing-named : (u v d : ℕ) → Meets u v → d < 9 → Listed (Locked m u v d) (LockedLoss g u v d)
  pointing-named u v d w hd =
      let l = meets-line w in
      subst (λ (x : ℕ). Listed (Locked m x v d) (LockedLoss g x v d)) l.is₁
      (subst (λ (x : ℕ). Listed (Locked m (18 + l.b) x d) (LockedLoss g (18 + l.b) x d)) l.is₂
      (itself Pointing (pointing l.b d l.k) (pointing-listed l.b d l.k l.low₁ hd l.low₂)))

  pub claiming-named : (u v d : ℕ) → Meets v u → d < 9 → Listed (Locked m u v d) (LockedLoss g u v d)
  claiming-named u v d w hd =
      let l = meets-box w in
      subst (λ (x : ℕ). Listed (Locked m u x d) (LockedLoss g u x d)) l.is
      (itself Claiming (claiming u d l.k) (claiming-listed u d l.k w.line hd l.low))

  pub cross-named : (u v x y d : ℕ) → Crossing u v x y → d < 9 → Listed (CrossCells m u v x y d) (XWingLoss g u v x y d)
  cross-named u v x y d w hd = ⊎_elim rows columns w.lines
    where
      Of : ℕ → ℕ → ℕ → ℕ → Type 0
      Of u v x y = Listed (CrossCells m u v x y d) (XWingLoss g u v x y d)

      exchange : {u v x y : ℕ} (e k : ℕ) → XWingLoss g u v x y d e k → XWingLoss g v u x y d e k
      exchange e k l = record { member = l.member; free = l.free; outside₁ = l.outside₂; outside₂ = l.outside₁; digit = l.digit }

      exchange-across : {u v x y : ℕ} (e k : ℕ) → XWingLoss g u v x y d e k → XWingLoss g u v y x d e k
      exchange-across e k l = record { member = swap l.member; free = l.free; outside₁ = l.outside₁; outside₂ = l.outside₂; digit = l.digit }

      lines : {u v x y : ℕ} → Of u v x y → Of v u x y
      lines = again (λ w. record { inside = λ e p t. w.inside e (swap p) t }) exchange exchange

      across : {u v x y : ℕ} → Of u v x y → Of u v y x
      across = again (λ w. record { inside = λ e p t. swap (w.inside e p t) }) exchange-across exchange-across

      rows : Rows u v × Columns x y → Of u v x y
      rows p =
          let z₁ : 9 + (x - 9) ≡ x = omega arith in
          let z₂ : 9 + (y - 9) ≡ y = omega arith in
          subst (λ (n : ℕ). Of u v n y) z₁ (subst (λ (n : ℕ). Of u v (9 + (x - 9)) n) z₂
          (two-and-two (λ r s a b. Of r s (9 + a) (9 + b)) (λ r s a b. lines) (λ r s a b. across)
          (λ r s a b rs hs ab hb. itself Cross (cross d r s a b) (cross-listed d r s a b hd rs hs ab hb))
          u v (x - 9) (y - 9) (omega arith) (omega arith) w.apart₁ (omega arith) (omega arith) (λ q. w.apart₂ (omega arith))))

      columns : Columns u v × Rows x y → Of u v x y
      columns p =
          let z₁ : 9 + (u - 9) ≡ u = omega arith in
          let z₂ : 9 + (v - 9) ≡ v = omega arith in
          subst (λ (n : ℕ). Of n v x y) z₁ (subst (λ (n : ℕ). Of (9 + (u - 9)) n x y) z₂
          (two-and-two (λ r s a b. Of (9 + r) (9 + s) a b) (λ r s a b. lines) (λ r s a b. across)
          (λ r s a b rs hs ab hb. itself Cross (exchanged d r s a b) (exchanged-listed d r s a b hd rs hs ab hb))
          (u - 9) (v - 9) x y (omega arith) (omega arith) (λ q. w.apart₁ (omega arith)) (omega arith) (omega arith) w.apart₂))
