-- How many of nine lines hold a place: the tally says whether one, two or three do. Assumes nothing.
use mathlib.Core.Path.{◌≡◌, refl, sym, ap, ◌∙◌, subst}
use mathlib.Core.Logic.{◌≢◌, ◌↔◌}
use mathlib.Core.List.{List, [], ◌∷◌}
use Prim.Native.Nat.{ℕ, zero, suc, ◌+◌, ◌*◌, ◌≤◌, ◌<◌}
use native.Mathlib.Decide.{ℕ_discrete, dec_lt}
use native.Mathlib.Omega.{arith}
use borrow.Author.Tests.{eq-eqb, eqb-true}
use lib.Bits.{bit_and}
use lib.ListN.{length, set, length-set, get_or-eq_default}
use lib.Seq.{get_or-set_same, get_or-set_other}
use Rattle.candidates.specs.Masks.{bit, minus, union, Sub}
use Rattle.candidates.proofs.Held.{Held}
use Rattle.candidates.proofs.Membership.{bit-and, bit-union, bit-minus, bit-none, ext}
use Rattle.steps.specs.Boards.{at}
use Rattle.steps.specs.Loops.{each, range, up_to}
use Rattle.cells.specs.code.Unions.{joined}
use Rattle.cells.proofs.Shared.{union-at}
use Rattle.pair_cross.specs.declared.lively.Tally.{Tally}
use Rattle.pair_cross.specs.code.Lively.{tallied, tally_of, others}

-- how many of the first n lines hold d
unfoldable pub holders : (ℕ → ℕ) → ℕ → ℕ → ℕ
holders f d zero = 0
holders f d (suc n) = holders f d n + bit (f n) d

-- ---- bits, with no minimum or difference for `omega` to split

pub record Either (a b c : ℕ) : Type 0 where
  pub left : a ≤ c
  pub right : b ≤ c
  pub most : c ≤ a + b
  pub one : c ≤ 1

pub record Both (a b c : ℕ) : Type 0 where
  pub left : c ≤ a
  pub right : c ≤ b
  pub least : a + b ≤ c + 1

pub record Without (a b c : ℕ) : Type 0 where
  pub part : c ≤ a
  pub apart : c + b ≤ 1
  pub least : a ≤ c + b

pub either : (x y d : ℕ) → Either (bit x d) (bit y d) (bit (union x y) d)
either x y d = let e = bit-union x y d in record { left = omega arith; right = omega arith; most = omega arith; one = omega arith }

pub both : (x y d : ℕ) → Both (bit x d) (bit y d) (bit (bit_and x y) d)
both x y d = let e = bit-and x y d in record { left = omega arith; right = omega arith; least = omega arith }

pub without : (x y d : ℕ) → Without (bit x d) (bit y d) (bit (minus x y) d)
without x y d = let e = bit-minus x y d in record { part = omega arith; apart = omega arith; least = omega arith }

-- a tally of n lines that hold d
pub record Tells (t : Tally) (d n : ℕ) : Type 0 where
  pub once : 1 * bit t.once d ≤ n
  pub not-once : n ≤ 9 * bit t.once d
  pub twice : 2 * bit t.twice d ≤ n
  pub not-twice : n ≤ 1 + 8 * bit t.twice d
  pub thrice : 3 * bit t.thrice d ≤ n
  pub not-thrice : n ≤ 2 + 7 * bit t.thrice d

-- one line more, where it holds d or not: of numbers
module _ (n : ℕ) (l : n < 9) where
  once-on : (b x z : ℕ) → x < 2 → Either b x z → 1 * b ≤ n → n ≤ 9 * b → (1 * z ≤ n + x) × (n + x ≤ 9 * z)
  once-on b zero z s e p q = (omega arith, omega arith)
  once-on b (suc zero) z s e p q = (omega arith, omega arith)
  once-on b (suc (suc x)) z s e p q = absurd (omega arith)

  twice-on : (b c x m z : ℕ) → x < 2 → Both c x m → Either b m z → 1 * c ≤ n → n ≤ 9 * c → 2 * b ≤ n → n ≤ 1 + 8 * b → (2 * z ≤ n + x) × (n + x ≤ 1 + 8 * z)
  twice-on b c zero m z s w e p q r t = (omega arith, omega arith)
  twice-on b c (suc zero) m z s w e p q r t = (omega arith, omega arith)
  twice-on b c (suc (suc x)) m z s w e p q r t = absurd (omega arith)

  thrice-on : (b c x m z : ℕ) → x < 2 → Both c x m → Either b m z → 2 * c ≤ n → n ≤ 1 + 8 * c → 3 * b ≤ n → n ≤ 2 + 7 * b → (3 * z ≤ n + x) × (n + x ≤ 2 + 7 * z)
  thrice-on b c zero m z s w e p q r t = (omega arith, omega arith)
  thrice-on b c (suc zero) m z s w e p q r t = (omega arith, omega arith)
  thrice-on b c (suc (suc x)) m z s w e p q r t = absurd (omega arith)

tells-on : (t : Tally) (x d n : ℕ) → n < 9 → Tells t d n → Tells (tallied x t) d (n + bit x d)
tells-on t x d n l h =
    let p = once-on n l (bit t.once d) (bit x d) (bit (union t.once x) d) (omega arith) (either t.once x d) h.once h.not-once in
    let q = twice-on n l (bit t.twice d) (bit t.once d) (bit x d) (bit (bit_and t.once x) d) (bit (union t.twice (bit_and t.once x)) d) (omega arith) (both t.once x d) (either t.twice (bit_and t.once x) d) h.once h.not-once h.twice h.not-twice in
    let r = thrice-on n l (bit t.thrice d) (bit t.twice d) (bit x d) (bit (bit_and t.twice x) d) (bit (union t.thrice (bit_and t.twice x)) d) (omega arith) (both t.twice x d) (either t.thrice (bit_and t.twice x) d) h.twice h.not-twice h.thrice h.not-thrice in
    record { once = p.0; not-once = p.1; twice = q.0; not-twice = q.1; thrice = r.0; not-thrice = r.1 }

module _ (f : ℕ → ℕ) (d : ℕ) where
  pub at_most : (n : ℕ) → holders f d n ≤ n
  unfolding holders
  at_most zero = omega arith
  at_most (suc n) = omega (arith, at_most n)

  tally-from : (n k : ℕ) (t : Tally) → k + n ≡ 9 → Tells t d (holders f d k) → Tells (each (λ i. tallied (f i)) (range n k) t) d (holders f d 9)
  unfolding each holders
  tally-from zero k t e h = let same : k ≡ 9 = omega arith in subst (λ (m : ℕ). Tells t d (holders f d m)) same h
  tally-from (suc n) k t e h = tally-from n (suc k) (tallied (f k) t) (omega arith) (tells-on t (f k) d (holders f d k) (omega (arith, at_most k)) h)

  pub tally-tells : Tells (tally_of f) d (holders f d 9)
  unfolding tally_of holders
  tally-tells = tally-from 9 0 (record { once = 0; twice = 0; thrice = 0 }) refl none
    where
      none : Tells (record { once = 0; twice = 0; thrice = 0 }) d 0
      none = let e = bit-none d in record { once = omega arith; not-once = omega arith; twice = omega arith; not-twice = omega arith; thrice = omega arith; not-thrice = omega arith }

  -- a line that holds d counts once
  pub one_more : (i n : ℕ) → i < n → holders f d i + bit (f i) d ≤ holders f d n
  unfolding holders
  one_more i zero h = absurd (omega arith)
  one_more i (suc n) h = go (ℕ_discrete i n) (λ l. one_more i n l)
    where
      go : Dec (i ≡ n) → (i < n → holders f d i + bit (f i) d ≤ holders f d n) → holders f d i + bit (f i) d ≤ holders f d n + bit (f n) d
      go (yes e) more = subst (λ (k : ℕ). holders f d i + bit (f i) d ≤ holders f d k + bit (f k) d) e (omega arith)
      go (no e) more = omega (arith, more (omega arith))

  pub two-held : (i j : ℕ) → i ≢ j → i < 9 → j < 9 → bit (f i) d + bit (f j) d ≤ holders f d 9
  two-held i j n h l = go (dec_lt i j)
    where
      go : Dec (i < j) → bit (f i) d + bit (f j) d ≤ holders f d 9
      go (yes r) = omega (arith, one_more i j r, one_more j 9 l)
      go (no r) = omega (arith, one_more j i (omega arith), one_more i 9 h)

  -- ---- the lines that hold d

  -- k of the first n lines, the last first
  abbrev pub AtLeast : ℕ → ℕ → Type 0
  AtLeast zero n = Unit {0}
  AtLeast (suc k) n = (i : ℕ) × (i < n) × Held (f i) d × AtLeast k i

  last : (n : ℕ) → 0 < holders f d n → (i : ℕ) × (i < n) × Held (f i) d × (holders f d n ≡ holders f d i + 1)
  unfolding holders
  last zero h = absurd (omega arith)
  last (suc n) h = go (ℕ_discrete (bit (f n) d) 1) (λ l. last n l)
    where
      go : Dec (bit (f n) d ≡ 1) → (0 < holders f d n → (i : ℕ) × (i < n) × Held (f i) d × (holders f d n ≡ holders f d i + 1))
          → (i : ℕ) × (i < suc n) × Held (f i) d × (holders f d n + bit (f n) d ≡ holders f d i + 1)
      go (yes e) ih = (n, omega arith, eq-eqb (bit (f n) d) 1 e, omega arith)
      go (no e) ih =
          let w = ih (omega arith) in
          let o = w.1 in
          let q = w.3 in
          (w.0, omega arith, w.2, omega arith)

  pub lines_of : (k n : ℕ) → k ≤ holders f d n → AtLeast k n
  lines_of zero n h = tt
  lines_of (suc k) n h =
      let w = last n (omega arith) in
      (w.0, w.1, w.2, lines_of k w.0 (omega (arith, w.3)))

  pub count_of : (k n : ℕ) → AtLeast k n → k ≤ holders f d n
  count_of zero n w = omega arith
  count_of (suc k) n w = omega (arith, count_of k w.0 w.3, one_more w.0 n w.1, eqb-true (bit (f w.0) d) 1 w.2)

  -- the tally's first set, by a line that holds the place
  pub once-held : Held (tally_of f).once d ↔ AtLeast 1 9
  once-held = (
    λ t. lines_of 1 9 (omega (arith, tally-tells.once, eqb-true (bit (tally_of f).once d) 1 t)),
    λ w. eq-eqb (bit (tally_of f).once d) 1 (omega (arith, tally-tells.not-once, count_of 1 9 w)),
  )

-- what the other lines hold, of n lines that hold d
pub record OthersTell (t : Tally) (x y d n : ℕ) : Type 0 where
  pub some : bit (others t x y) d + bit x d + bit y d ≤ n
  pub none : n ≤ 9 * bit (others t x y) d + bit x d + bit y d

module _ (n o w h z u b c : ℕ) (l : n ≤ 9) (p : 1 * o ≤ n) (p' : n ≤ 9 * o) (q : 2 * w ≤ n) (q' : n ≤ 1 + 8 * w) (r : 3 * h ≤ n) (r' : n ≤ 2 + 7 * h) where
  rest : (x y a m : ℕ) → x < 2 → y < 2 → x + y ≤ n → Either x y a → Both x y m → Without o a b → Without w m c → Either b c u → Either u h z → (z + x + y ≤ n) × (n ≤ 9 * z + x + y)
  rest zero zero a m s t k e f i j g v = (omega arith, omega arith)
  rest zero (suc zero) a m s t k e f i j g v = (omega arith, omega arith)
  rest (suc zero) zero a m s t k e f i j g v = (omega arith, omega arith)
  rest (suc zero) (suc zero) a m s t k e f i j g v = (omega arith, omega arith)
  rest zero (suc (suc y)) a m s t k e f i j g v = absurd (omega arith)
  rest (suc zero) (suc (suc y)) a m s t k e f i j g v = absurd (omega arith)
  rest (suc (suc x)) y a m s t k e f i j g v = absurd (omega arith)

pub others-tell : (t : Tally) (x y d n : ℕ) → n ≤ 9 → Tells t d n → bit x d + bit y d ≤ n → OthersTell t x y d n
others-tell t x y d n h k l = record { some = w.0; none = w.1 }
  where
    left : ℕ
    left = minus t.once (union x y)

    mid : ℕ
    mid = minus t.twice (bit_and x y)

    w : (bit (others t x y) d + bit x d + bit y d ≤ n) × (n ≤ 9 * bit (others t x y) d + bit x d + bit y d)
    w =
        rest n (bit t.once d) (bit t.twice d) (bit t.thrice d) (bit (others t x y) d) (bit (union left mid) d) (bit left d) (bit mid d) h k.once k.not-once k.twice k.not-twice
        k.thrice k.not-thrice (bit x d) (bit y d) (bit (union x y) d) (bit (bit_and x y) d) (omega arith) (omega arith) l (either x y d) (both x y d) (without t.once (union x y) d)
        (without t.twice (bit_and x y) d) (either left mid d) (either (union left mid) t.thrice d)

-- ---- the other lines of a list

-- a line that is left out
module _ (f g : ℕ → ℕ) (d i : ℕ) (none : bit (g i) d ≡ 0) (same : (l : ℕ) → l ≢ i → bit (g l) d ≡ bit (f l) d) where
  before : (n : ℕ) → n ≤ i → holders g d n ≡ holders f d n
  unfolding holders
  before zero h = refl
  before (suc n) h = omega (arith, before n (omega arith), same n (λ e. absurd (omega arith)))

  left_out : (n : ℕ) → i < n → holders g d n + bit (f i) d ≡ holders f d n
  unfolding holders
  left_out zero h = absurd (omega arith)
  left_out (suc n) h = go (ℕ_discrete n i) (λ l. left_out n l)
    where
      go : Dec (n ≡ i) → (i < n → holders g d n + bit (f i) d ≡ holders f d n) → holders g d n + bit (g n) d + bit (f i) d ≡ holders f d n + bit (f n) d
      go (yes e) ih = subst (λ (k : ℕ). holders g d n + bit (g k) d + bit (f i) d ≡ holders f d n + bit (f k) d) (sym e) (omega (arith, before n (omega arith)))
      go (no e) ih = omega (arith, ih (omega arith), same n e)

pub set-none : (ys : List ℕ) (j : ℕ) → at (set ys j 0) j ≡ 0
set-none ys j = go (dec_lt j (length ys))
  where
    go : Dec (j < length ys) → at (set ys j 0) j ≡ 0
    go (yes h) = get_or-set_same ys j 0 0 h
    go (no h) = get_or-eq_default (set ys j 0) 0 (omega (arith, length-set ys j 0))

set_out : (ys : List ℕ) (d i : ℕ) → i < 9 → holders (at (set ys i 0)) d 9 + bit (at ys i) d ≡ holders (at ys) d 9
set_out ys d i h =
    left_out (at ys) (at (set ys i 0)) d i (ap (λ (x : ℕ). bit x d) (set-none ys i) ∙ bit-none d) (λ l n. ap (λ (x : ℕ). bit x d) (get_or-set_other ys i l 0 0 n)) 9 h

once-each : (f : ℕ → ℕ) (xs : List ℕ) (t : Tally) → (each (λ i. tallied (f i)) xs t).once ≡ each (λ i k. union k (f i)) xs t.once
unfolding each
once-each f [] t = refl
once-each f (x ∷ xs) t = once-each f xs (tallied (f x) t)

pub once-joined : (nine : List ℕ) → (tally_of (at nine)).once ≡ joined nine
unfolding tally_of joined
once-joined nine = once-each (at nine) (up_to 9) (record { once = 0; twice = 0; thrice = 0 })

-- what the lines but i and j hold
unfoldable pub others_of : List ℕ → ℕ → ℕ → ℕ
others_of nine i j = joined (set (set nine i 0) j 0)

pub others-are : (nine : List ℕ) (i j : ℕ) → i ≢ j → i < 9 → j < 9 → others (tally_of (at nine)) (at nine i) (at nine j) ≡ others_of nine i j
unfolding others_of
others-are nine i j n h l = ext (others t x y) (joined both_out) (λ d. one d)
  where
    t : Tally
    t = tally_of (at nine)

    x : ℕ
    x = at nine i

    y : ℕ
    y = at nine j

    both_out : List ℕ
    both_out = set (set nine i 0) j 0

    one : (d : ℕ) → bit (others t x y) d ≡ bit (joined both_out) d
    one d =
        let p = others-tell t x y d (holders (at nine) d 9) (at_most (at nine) d 9) (tally-tells (at nine) d) (two-held (at nine) d i j n h l) in
        let q = tally-tells (at both_out) d in
        let q1 = q.once in
        let q2 = q.not-once in
        let e = ap (λ (z : ℕ). bit z d) (once-joined both_out) in
        let a = set_out nine d i h in
        let b = set_out (set nine i 0) d j l in
        let c = ap (λ (z : ℕ). bit z d) (get_or-set_other nine i j 0 0 (λ (r : j ≡ i). n (sym r))) in
        omega arith

pub other-joined : (nine : List ℕ) (i j l : ℕ) → l < 9 → l ≢ i → l ≢ j → Sub (at nine l) (others_of nine i j)
unfolding others_of joined
other-joined nine i j l h p q =
    subst (λ (x : ℕ). Sub x (others_of nine i j)) (get_or-set_other (set nine i 0) j l 0 0 q ∙ get_or-set_other nine i l 0 0 p)
    (union-at (at (set (set nine i 0) j 0)) 9 l (omega arith))
