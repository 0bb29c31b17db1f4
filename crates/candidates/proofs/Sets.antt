-- Laws of the candidate set: equal sets have equal masks, and iteration gives the digits of the set, rising. Assumes nothing.
use mathlib.Core.Path.{◌≡◌, refl, sym, ap, ◌∙◌}
use mathlib.Core.Bool.{Bool, true, false, cond}
use mathlib.Core.List.{List, [], ◌∷◌}
use mathlib.Core.Option.{none, some}
use Prim.Native.Nat.{ℕ, zero, suc, ◌+◌, ◌-◌, ◌≤◌, ◌<◌, min}
use native.Mathlib.Nat.{mod-lt}
use native.Mathlib.Decide.{dec_lt}
use native.Mathlib.Numerals.{add-one}
use native.Mathlib.Omega.{arith}
use borrow.Author.Tests.{lt-ltb, le-ltb}
use lib.Dec.{ltb, lit<}
use lib.IntN.{ℤ, pos}
use Rattle.stops.specs.Answer.{gives, stop}
use Rattle.stops.specs.declared.Stop.TheVariants.{BadDigit}
use Rattle.candidates.specs.Masks.{bit, has, low_nine, first_place}
use Rattle.candidates.specs.Sets.{contains_of, next_at, next_of, after, digits_from, drained}
use Rattle.stops.proofs.Answers.{gives_same}
use Rattle.candidates.proofs.Held.{bit-same}
use Rattle.candidates.proofs.Membership.{bit_high, ext}
use Rattle.candidates.proofs.Counts.{first-hit, first-miss, first-end, first-ge}
use Rattle.candidates.proofs.Tests.{cond-true, cond-false}

-- ---- "Equal sets have equal masks"

contains-at : (x d : ℕ) → d < 9 → contains_of x (pos (suc d)) ≡ gives (has (low_nine x) d)
contains-at x d k =
    let e : min d 9 ≡ d = omega arith in
    ap (λ (q : ℕ). cond (ltb q 9) (gives (has (low_nine x) q)) (stop (BadDigit (pos (suc d))))) e
    ∙ cond-true (ltb d 9) (gives (has (low_nine x) d)) (stop (BadDigit (pos (suc d)))) (lt-ltb d 9 k)

pub equal-sets : (x y : ℕ) → ((z : ℤ) → contains_of x z ≡ contains_of y z) → low_nine x ≡ low_nine y
equal-sets x y h = ext (low_nine x) (low_nine y) (λ d. go d (dec_lt d 9))
  where
    go : (d : ℕ) → Dec (d < 9) → bit (low_nine x) d ≡ bit (low_nine y) d
    go d (yes k) =
        bit-same (low_nine x) (low_nine y) d (gives_same (sym (contains-at x d k) ∙ h (pos (suc d)) ∙ contains-at y d k))
    go d (no k) =
        bit_high (low_nine x) 9 d (mod-lt x (lit< tt)) (omega arith) ∙ sym (bit_high (low_nine y) 9 d (mod-lt y (lit< tt)) (omega arith))

-- ---- iteration

-- the digits at place p and above
abbrev left : ℕ → ℕ → List ℤ
left m p = digits_from (9 - p) p m

left_end : (m p : ℕ) → 9 ≤ p → left m p ≡ []
unfolding digits_from
left_end m p h =
    let e : 9 - p ≡ 0 = omega arith in
    ap (λ (n : ℕ). digits_from n p m) e

left-on : (m p : ℕ) → p < 9 → left m p ≡ cond (has m p) (pos (p + 1) ∷ left m (p + 1)) (left m (p + 1))
unfolding digits_from
left-on m p h =
    let e : 9 - p ≡ suc (9 - (p + 1)) = omega arith in
    ap (λ (n : ℕ). digits_from n p m) e
    ∙ ap (λ (q : ℕ). cond (has m p) (pos (p + 1) ∷ digits_from (9 - (p + 1)) q m) (digits_from (9 - (p + 1)) q m)) (sym (add-one p))

next-end : (m q : ℕ) → 9 ≤ q → next_at m q ≡ none
next-end m q h = cond-false (ltb q 9) (some (pos (q + 1), m, q + 1)) none (le-ltb q 9 h)

next-at : (m q : ℕ) → q < 9 → next_at m q ≡ some (pos (q + 1), m, q + 1)
next-at m q h = cond-true (ltb q 9) (some (pos (q + 1), m, q + 1)) none (lt-ltb q 9 h)

-- one call of `next` takes the first of the digits that are left
next-first : (k m p : ℕ) → 9 - p ≤ k → after left (next_of m p) ≡ left m p
next-first zero m p b =
    let e : 9 ≤ p = omega arith in
    ap (after left) (ap (next_at m) (first-end m p e) ∙ next-end m p e) ∙ sym (left_end m p e)
next-first (suc k) m p b = go (dec_lt p 9) (has m p) refl (λ h. next-first k m (p + 1) h)
  where
    go : Dec (p < 9) → (t : Bool) → has m p ≡ t → (9 - (p + 1) ≤ k → after left (next_of m (p + 1)) ≡ left m (p + 1)) → after left (next_of m p) ≡ left m p
    go (yes h) true t ih =
        ap (after left) (ap (next_at m) (first-hit m p h t) ∙ next-at m p h)
        ∙ sym (left-on m p h ∙ cond-true (has m p) (pos (p + 1) ∷ left m (p + 1)) (left m (p + 1)) t)
    go (yes h) false t ih =
        ap (after left) (ap (next_at m) (first-miss m p h t)) ∙ ih (omega arith)
        ∙ sym (left-on m p h ∙ cond-false (has m p) (pos (p + 1) ∷ left m (p + 1)) (left m (p + 1)) t)
    go (no h) t e ih =
        let k : 9 ≤ p = omega arith in
        ap (after left) (ap (next_at m) (first-end m p k) ∙ next-end m p k) ∙ sym (left_end m p k)

drained-left : (n m p : ℕ) → 9 - p < n → drained n m p ≡ left m p
unfolding drained
drained-left zero m p h = absurd (omega arith)
drained-left (suc n) m p h = go (dec_lt q 9) (λ k. drained-left n m (q + 1) k) ∙ next-first 9 m p (omega arith)
  where
    q : ℕ
    q = first_place (9 - p) p m

    go : Dec (q < 9) → (9 - (q + 1) < n → drained n m (q + 1) ≡ left m (q + 1)) → after (drained n) (next_at m q) ≡ after left (next_at m q)
    go (yes k) ih =
        ap (after (drained n)) (next-at m q k) ∙ ap (λ (l : List ℤ). pos (q + 1) ∷ l) (ih (omega (arith, first-ge (9 - p) p m)))
        ∙ sym (ap (after left) (next-at m q k))
    go (no k) ih = ap (after (drained n)) (next-end m q (omega arith)) ∙ sym (ap (after left) (next-end m q (omega arith)))

-- calling `next` until it is done gives the digits of the set, rising
pub iterated : (m : ℕ) → drained 10 m 0 ≡ digits_from 9 0 m
iterated m = drained-left 10 m 0 (omega arith)
