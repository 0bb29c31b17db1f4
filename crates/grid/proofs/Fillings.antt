-- What a correct filling is, by the places of its digits; the verifier's definition says yes to exactly these. Assumes nothing.
use mathlib.Core.Path.{◌≡◌, refl, sym, ap, ◌∙◌, subst}
use mathlib.Core.Logic.{◌≢◌}
use mathlib.Core.Bool.{Bool, true, false, ◌&&◌, false≢true}
use mathlib.Core.List.{List, [], map}
use Prim.Native.Nat.{ℕ, zero, suc, ◌-◌, ◌≤◌, ◌<◌}
use native.Mathlib.Decide.{ℕ_discrete}
use native.Mathlib.Omega.{arith}
use borrow.Author.Tests.{leb-true, le-leb, ltb-true}
use lib.Dec.{leb}
use lib.IntN.{ℤ, pos, negsuc}
use lib.ListN.{length, get_or, length-map, get_or-map}
use lib.Signed.{lt_z, le_z}
use Rattle.grid.specs.Lists.{all}
use Rattle.grid.specs.Cells.{row, sees, cells}
use Rattle.grid.specs.Units.{units, unit, unit_cell, Member}
use Rattle.grid.specs.Fillings.{number_at, Digit, Correct, is_digit, distinct, verified}
use Rattle.candidates.specs.Sets.{place}
use Rattle.candidates.proofs.Places.{place-pos}
use Rattle.candidates.proofs.Tests.{both, both_left, both_right}
use Rattle.grid.proofs.Lists.{all-at, at_all, all-range, range_all, distinct-at, at-distinct}
use Rattle.grid.proofs.Units.{unit-length, cell_below, place_in, place-below, place-cell}
use Rattle.grid.proofs.Cells.{row_below, row_in, sees-shared}
use Rattle.grid.proofs.Pigeonhole.{Injects, onto}

-- ---- digits and their places

pub number_of : (z : ℤ) (p : ℕ) → place z ≡ p → p < 9 → z ≡ pos (suc p)
number_of (pos zero) p e h = absurd (omega arith)
number_of (pos (suc n)) p e h = ap pos (omega arith)
number_of (negsuc n) p e h = absurd (omega arith)

pub place-digit : (z : ℤ) → place z < 9 → Digit z
place-digit z h = record {
  digit = suc (place z);
  low = omega arith;
  high = omega arith;
  is = number_of z (place z) refl h;
}

pub digit-place : {z : ℤ} (d : Digit z) → place z ≡ d.digit - 1
digit-place d = ap place d.is ∙ place-pos d.digit d.low d.high

pub place-lt : {z : ℤ} → Digit z → place z < 9
place-lt {z} d = omega (arith, digit-place d, d.low, d.high)

pub same_number_lem : (z w : ℤ) → place z < 9 → place z ≡ place w → z ≡ w
same_number_lem z w h e = number_of z (place z) refl h ∙ sym (number_of w (place z) (sym e) h)

pub test-place : (z : ℤ) → is_digit z ≡ true → place z < 9
test-place (pos zero) e = absurd (false≢true e)
test-place (pos (suc n)) e = omega (arith, leb-true (suc n) 9 (both_right (leb 1 (suc n)) (leb (suc n) 9) e))
test-place (negsuc n) e = absurd (false≢true e)

place-test : (z : ℤ) → place z < 9 → is_digit z ≡ true
place-test (pos zero) h = absurd (omega arith)
place-test (pos (suc n)) h = both (le-leb 1 (suc n) (omega arith)) (le-leb (suc n) 9 (omega arith))
place-test (negsuc n) h = absurd (omega arith)

-- the test, a bound at a time
pub low-no : (z : ℤ) → lt_z z (pos 1) ≡ true → is_digit z ≡ false
low-no (pos zero) t = refl
low-no (pos (suc n)) t = absurd (omega (arith, ltb-true (suc n) 1 t))
low-no (negsuc n) t = refl

pub not_low : (z : ℤ) → lt_z z (pos 1) ≡ false → is_digit z ≡ le_z z (pos 9)
not_low (pos zero) t = absurd (false≢true (sym t))
not_low (pos (suc n)) t = ap (λ (b : Bool). b && leb (suc n) 9) (le-leb 1 (suc n) (omega arith))
not_low (negsuc n) t = absurd (false≢true (sym t))

-- ---- a correct filling, unit by unit

-- the place of the digit at a place of a unit
abbrev pub place_at : List ℤ → ℕ → ℕ → ℕ
place_at g u i = place (number_at g (unit_cell u i))

-- the nine digits stand at nine places
pub record Complete (g : List ℤ) : Type 0 where
  pub at : (u : ℕ) → u < 27 → Injects 9 9 (place_at g u)

-- a correct filling but for its size
record Keeps (g : List ℤ) : Type 0 where
  digits : (c : ℕ) → c < 81 → Digit (number_at g c)
  once : (u i j : ℕ) → u < 27 → i < 9 → j < 9 → i ≢ j → number_at g (unit_cell u i) ≢ number_at g (unit_cell u j)

correct-keeps : {g : List ℤ} → Correct g → Keeps g
correct-keeps r = record { digits = r.digits; once = r.once }

keeps-correct : {g : List ℤ} → length g ≡ 81 → Keeps g → Correct g
keeps-correct n r = record { size = n; digits = r.digits; once = r.once }

keeps-complete : {g : List ℤ} → Keeps g → Complete g
keeps-complete {g} r = record {
  at = λ u h. record {
    into = λ i k. place-lt (digit u i h k);
    apart = λ i j k l e. go u i j h k l (ℕ_discrete i j) e;
  };
}
  where
    digit : (u i : ℕ) → u < 27 → i < 9 → Digit (number_at g (unit_cell u i))
    digit u i h k = r.digits (unit_cell u i) (cell_below u i h k)

    go : (u i j : ℕ) → u < 27 → i < 9 → j < 9 → Dec (i ≡ j) → place_at g u i ≡ place_at g u j → i ≡ j
    go u i j h k l (yes p) e = p
    go u i j h k l (no n) e = absurd (r.once u i j h k l n (same_number_lem _ _ (place-lt (digit u i h k)) e))

complete-keeps : {g : List ℤ} → Complete g → Keeps g
complete-keeps {g} r = record {
  digits = λ c h. place-digit (number_at g c) (in-its-row c h);
  once = λ u i j h k l m e. m ((r.at u h).apart i j k l (ap place e));
}
  where
    in-its-row : (c : ℕ) → c < 81 → place (number_at g c) < 9
    in-its-row c h =
        let k = row_below c h in
        subst (λ (d : ℕ). place (number_at g d) < 9) (place-cell (row c) c (omega arith) h (row_in c h))
        ((r.at (row c) (omega arith)).into (place_in (row c) c) (place-below (row c) c (omega arith) h))

pub correct-complete : {g : List ℤ} → Correct g → Complete g
correct-complete r = keeps-complete (correct-keeps r)

pub complete-correct : {g : List ℤ} → length g ≡ 81 → Complete g → Correct g
complete-correct n r = keeps-correct n (complete-keeps r)

-- every digit stands somewhere in every unit
pub digit-somewhere : {g : List ℤ} → Correct g → (u n : ℕ) → u < 27 → 1 ≤ n → n ≤ 9 → (i : ℕ) × (i < 9) × (number_at g (unit_cell u i) ≡ pos n)
digit-somewhere {g} r u n h k l =
    let p = onto 9 (place_at g u) ((correct-complete r).at u h) (n - 1) (omega arith) in
    (p.0, p.1, number_of (number_at g (unit_cell u p.0)) (n - 1) p.2 (omega arith) ∙ ap pos (omega arith))

-- and at one cell of the unit alone
pub digit-once : {g : List ℤ} {u a b : ℕ} → Correct g → u < 27 → Member u a → Member u b → number_at g a ≡ number_at g b → a ≡ b
digit-once {g} {u} {a} {b} r h m n e = go (ℕ_discrete m.place n.place)
  where
    go : Dec (m.place ≡ n.place) → a ≡ b
    go (yes p) = sym m.is ∙ ap (unit_cell u) p ∙ n.is
    go (no p) =
        absurd (r.once u m.place n.place h m.within n.within p (ap (number_at g) m.is ∙ e ∙ sym (ap (number_at g) n.is)))

-- cells that see each other hold different digits
pub sees-other-digit : {g : List ℤ} → Correct g → (a b : ℕ) → a < 81 → b < 81 → sees a b ≡ true → number_at g a ≢ number_at g b
sees-other-digit r a b h k e p =
    let s = sees-shared a b h k e in
    s.different (digit-once r s.within s.first s.second p)

-- ---- the verifier's definition

units-length : length units ≡ 27
unfolding units
units-length = refl

number_in : (g : List ℤ) (u i : ℕ) → get_or (map (number_at g) (unit u)) i (number_at g 81) ≡ number_at g (unit_cell u i)
number_in g u i = get_or-map (number_at g) (unit u) i 81

numbers-length : (g : List ℤ) (u : ℕ) → u < 27 → length (map (number_at g) (unit u)) ≡ 9
numbers-length g u h = length-map (unit u) (number_at g) ∙ unit-length u h

pub verified-digit : (g : List ℤ) → verified g ≡ true → (c : ℕ) → c < 81 → is_digit (number_at g c) ≡ true
unfolding verified cells
verified-digit g e c h = all-range (λ c. is_digit (number_at g c)) 81 (both_left (all (λ c. is_digit (number_at g c)) cells) _ e) c h

verified-keeps : (g : List ℤ) → verified g ≡ true → Keeps g
unfolding verified unit cells
verified-keeps g e = record {
  digits = λ c h. place-digit (number_at g c) (test-place (number_at g c) (verified-digit g e c h));
  once = λ u i j h k l m p. once u h i j k l m (number_in g u i ∙ p ∙ sym (number_in g u j));
}
  where
    once : (u : ℕ) → u < 27 → (i j : ℕ) → i < 9 → j < 9 → i ≢ j → get_or (map (number_at g) (unit u)) i (number_at g 81) ≢ get_or (map (number_at g) (unit u)) j (number_at g 81)
    once u h i j k l =
        let s = numbers-length g u h in
        distinct-at (map (number_at g) (unit u)) (number_at g 81)
        (all-at (λ cs. distinct (map (number_at g) cs)) units [] (both_right (all (λ c. is_digit (number_at g c)) cells) _ e) u (omega (arith, units-length))) i j
        (omega arith) (omega arith)

keeps-verified : (g : List ℤ) → Keeps g → verified g ≡ true
unfolding verified unit cells
keeps-verified g r =
    both (range_all (λ c. is_digit (number_at g c)) 81 (λ c h. place-test (number_at g c) (place-lt (r.digits c h))))
    (at_all (λ cs. distinct (map (number_at g) cs)) units [] (λ u h. once u (omega (arith, units-length))))
  where
    once : (u : ℕ) → u < 27 → distinct (map (number_at g) (unit u)) ≡ true
    once u h =
        let s = numbers-length g u h in
        at-distinct (map (number_at g) (unit u)) (number_at g 81)
        (λ i j k l m p. r.once u i j h (omega arith) (omega arith) m (sym (number_in g u i) ∙ p ∙ number_in g u j))

pub verified-complete : (g : List ℤ) → verified g ≡ true → Complete g
verified-complete g e = keeps-complete (verified-keeps g e)

pub complete-verified : (g : List ℤ) → Complete g → verified g ≡ true
complete-verified g r = keeps-verified g (complete-keeps r)

pub verified-correct : (g : List ℤ) → length g ≡ 81 → verified g ≡ true → Correct g
verified-correct g n e = keeps-correct n (verified-keeps g e)

pub correct-verified : (g : List ℤ) → Correct g → verified g ≡ true
correct-verified g r = keeps-verified g (correct-keeps r)
