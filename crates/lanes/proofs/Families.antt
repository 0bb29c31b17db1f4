-- The rows, the columns and the boxes are families: the units of one are disjoint, and 27 turns are three times nine. Assumes nothing.
use mathlib.Core.Path.{◌≡◌, refl, sym, ap, ◌∙◌, subst}
use mathlib.Core.Logic.{◌≢◌}
use mathlib.Core.Bool.{Bool, true}
use mathlib.Core.List.{List, Memᴰ}
use Prim.Native.Nat.{ℕ, ◌+◌, ◌*◌, ◌<◌}
use native.Mathlib.Decide.{dec_lt}
use native.Mathlib.Omega.{arith}
use borrow.Author.Tests.{eqb-true}
use Rattle.candidates.specs.Masks.{has}
use Rattle.candidates.proofs.Held.{Held}
use Rattle.candidates.proofs.Tests.{by-test, bool_iff}
use Rattle.grid.specs.Cells.{row, col, box}
use Rattle.grid.specs.Units.{unit, unit_cell, in_unit}
use Rattle.grid.proofs.Units.{in_row, in-col, in-box, cell_in, mem-member, member-in}
use Rattle.steps.specs.Boards.{at}
use Rattle.steps.specs.Loops.{each, up_to}
use Rattle.steps.specs.Steps.{Step, applies, lose_at, lose_all, step_taken}
use Rattle.steps.proofs.Loops.{each_keeps}
use Rattle.steps.proofs.Losses.{lost-digits}
use Rattle.steps.proofs.Steps.{lose-other}
use Rattle.lanes.specs.code.Lanes.{SameOn, Alike}
use Rattle.lanes.proofs.Turns.{Parted, same_start, same_then}

-- the nine turns of a family
abbrev pub family_of : (ℕ → List ℕ → List ℕ) → ℕ → List ℕ → List ℕ
family_of turn f m = each (λ k. turn (9 * f + k)) (up_to 9) m

pub families : (turn : ℕ → List ℕ → List ℕ) (m : List ℕ) → each turn (up_to 27) m ≡ each (family_of turn) (up_to 3) m
unfolding each
families turn m = refl

-- a cell lies in one unit of a family
module _ (f i j c : ℕ) (hf : f < 3) (hi : i < 9) (hj : j < 9) (p : in_unit (9 * f + i) c ≡ true) (q : in_unit (9 * f + j) c ≡ true) where
  named : (k : ℕ) → {u : ℕ} → 9 * f + k ≡ u → in_unit (9 * f + k) c ≡ true → in_unit u c ≡ true
  named k e t = ap (λ (u : ℕ). in_unit u c) (sym e) ∙ t

  one_unit : i ≡ j
  one_unit = go (dec_lt f 1) (dec_lt f 2)
    where
      go : Dec (f < 1) → Dec (f < 2) → i ≡ j
      go (yes a) b =
          let d : 9 * f + i ≡ i = omega arith in
          let e : 9 * f + j ≡ j = omega arith in
          sym (eqb-true (row c) i (sym (in_row i c hi) ∙ named i d p)) ∙ eqb-true (row c) j (sym (in_row j c hj) ∙ named j e q)
      go (no a) (yes b) =
          let d : 9 * f + i ≡ 9 + i = omega arith in
          let e : 9 * f + j ≡ 9 + j = omega arith in
          sym (eqb-true (col c) i (sym (in-col i c hi) ∙ named i d p)) ∙ eqb-true (col c) j (sym (in-col j c hj) ∙ named j e q)
      go (no a) (no b) =
          let d : 9 * f + i ≡ 18 + i = omega arith in
          let e : 9 * f + j ≡ 18 + j = omega arith in
          sym (eqb-true (box c) i (sym (in-box i c hi) ∙ named i d p)) ∙ eqb-true (box c) j (sym (in-box j c hj) ∙ named j e q)

-- a step leaves alone what it does not hit
pub take-off : (free : ℕ → Bool) (s : Step) (m : List ℕ) (e : ℕ) → (Memᴰ e s.hits → ⊥) → at (step_taken free s m) e ≡ at m e
unfolding step_taken
take-off free s m e off =
    by-test (λ (n : List ℕ). at n e ≡ at m e) (applies s m) (lose_all free s.hits s.loses m) m (λ t. kept) (λ t. refl)
  where
    kept : at (lose_all free s.hits s.loses m) e ≡ at m e
    kept =
        each_keeps (λ c. lose_at free c (s.loses c)) (λ (n : List ℕ). at n e ≡ at m e) s.hits
        (λ c h n p. lose-other free c (s.loses c) n e (λ q. off (subst (λ (x : ℕ). Memᴰ x s.hits) (sym q) h)) ∙ p) m refl

-- turns that take steps which hit their own unit alone
pub unit-parted : (turn : ℕ → List ℕ → List ℕ) → ((u : ℕ) → u < 27 → (m : List ℕ) (e : ℕ) → (Memᴰ e (unit u) → ⊥) → at (turn u m) e ≡ at m e)
    → (f : ℕ) → f < 3 → Parted (λ k. SameOn (9 * f + k)) (λ k. turn (9 * f + k))
unit-parted turn off f hf = record {
  start = λ j m. same_start (9 * f + j) m;
  then = λ j a b. same_then (9 * f + j) a b;
  keeps = λ i j hi hj n m. record {
    at = λ l h. off (9 * f + i) (omega arith) m (unit_cell (9 * f + j) l)
        (λ w. n (one_unit f i j (unit_cell (9 * f + j) l) hf hi hj (member-in (omega arith) (mem-member (omega arith) w)) (cell_in (9 * f + j) l (omega arith) h)));
  };
}

-- ---- turns by digits

-- a step that loses one digit alone leaves the others
pub take-alike : (free : ℕ → Bool) (s : Step) (i j : ℕ) → j ≢ i → ((e v : ℕ) → Held (s.loses e) v → v ≡ i) → (m : List ℕ) (c : ℕ) → has (at (step_taken free s m) c) j ≡ has (at m c) j
unfolding step_taken
take-alike free s i j n one m c =
    by-test (λ (o : List ℕ). has (at o c) j ≡ has (at m c) j) (applies s m) (lose_all free s.hits s.loses m) m
    (λ t. bool_iff (has (at (lose_all free s.hits s.loses m) c) j) (has (at m c) j) (λ h. ((lost-digits free s.loses s.hits m c j).0 h).0)
    (λ h. (lost-digits free s.loses s.hits m c j).1 (h, λ l. n (one c j l.digit)))) (λ t. refl)

pub digit-parted : (turn : ℕ → List ℕ → List ℕ) → ((i j : ℕ) → j ≢ i → (m : List ℕ) (c : ℕ) → has (at (turn i m) c) j ≡ has (at m c) j) → Parted Alike turn
digit-parted turn kept = record {
  start = λ j m. record { at = λ c. refl };
  then = λ j a b. record { at = λ c. b.at c ∙ a.at c };
  keeps = λ i j hi hj n m. record { at = λ c. kept i j (λ q. n (sym q)) m c };
}
