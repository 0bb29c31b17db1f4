-- Two lines to which the others lose nothing, by what each of them holds. Assumes nothing.
use mathlib.Core.Path.{◌≡◌, sym, ap, ◌∙◌}
use mathlib.Core.Logic.{◌≢◌, ◌⊎◌, inl, inr}
use mathlib.Core.Bool.{true, false}
use Prim.Native.Nat.{ℕ, ◌+◌, ◌*◌, ◌^◌, ◌≤◌, ◌<◌}
use native.Mathlib.Decide.{dec_lt}
use native.Mathlib.Omega.{arith}
use borrow.Author.Tests.{eqb-true, eqb-false}
use lib.Bits.{bit_and, and_zero_r}
use Rattle.candidates.specs.Masks.{bit, minus, union, count, single, lowest, tail}
use Rattle.candidates.proofs.Counts.{count_none, count-minus, count-zero, count-sub, sub-and}
use Rattle.candidates.proofs.FewDigits.{tail-count}
use Rattle.candidates.proofs.Membership.{bit-none, ext}
use Rattle.candidates.proofs.Order.{sub-all, sub-le, minus-sub, union_left, union-sub}
use Rattle.pair_cross.proofs.Reach.{reach-more, reach-apart}
use Rattle.pair_cross.specs.code.Lively.{tally_of, others, lost_of, small, lone, hot}
use Rattle.pair_cross.proofs.Holders.{holders, Either, Both, Without, either, both, without, OthersTell, tally-tells, at_most, two-held, others-tell}

-- ---- lines by what they hold

-- one place, which no other line holds
pub record Alone (x twice : ℕ) : Type 0 where
  pub one : count x ≡ 1
  pub apart : bit_and x twice ≡ 0

module _ (x : ℕ) (low : x < 2 ^ 16) where
  tail-le : count (tail x) ≤ count x
  tail-le = count-sub (minus-sub x (single (lowest x)))

  pub tail-few : (c : ℕ) → count x ≤ c + 1 → count (tail x) ≤ c
  tail-few c h = go (dec_lt 0 (count x))
    where
      go : Dec (0 < count x) → count (tail x) ≤ c
      go (yes s) = omega (arith, tail-count x low s)
      go (no s) = omega (arith, tail-le)

  tail-low : tail x < 2 ^ 16
  tail-low = omega (arith, sub-le (minus-sub x (single (lowest x))))

  pub lone-few : lone x ≡ true → count x ≤ 1
  lone-few t = go (dec_lt 0 (count x))
    where
      e : count (tail x) ≡ 0
      e = ap count (eqb-true (tail x) 0 t) ∙ count_none

      go : Dec (0 < count x) → count x ≤ 1
      go (yes s) = omega (arith, tail-count x low s, e)
      go (no s) = omega arith

  few-lone : count x ≤ 1 → tail x ≡ 0
  few-lone h = count-zero (tail x) (omega (arith, tail-few 0 h))

-- more than two
pub not-small : (x : ℕ) → x < 2 ^ 16 → small x ≡ false → 3 ≤ count x
not-small x low t = go (dec_lt 2 (count x))
  where
    go : Dec (2 < count x) → 3 ≤ count x
    go (yes s) = s
    go (no s) = absurd (eqb-false (tail (tail x)) 0 t (few-lone (tail x) (tail-low x low) (tail-few x low 1 (omega arith))))

-- a line that is not hot
pub not-hot : (x twice : ℕ) → x < 2 ^ 16 → hot x twice ≡ false → Alone x twice ⊎ (2 ≤ count x)
not-hot x twice low t = go (dec_lt 1 (count x))
  where
    few : count x ≤ 1 → count (minus x twice) ≢ 0
    few h e = eqb-false (union (tail x) (minus x twice)) 0 t (ap (λ (z : ℕ). union z (minus x twice)) (few-lone x low h) ∙ ap (union 0) (count-zero (minus x twice) e))

    go : Dec (1 < count x) → Alone x twice ⊎ (2 ≤ count x)
    go (yes s) = inr s
    go (no s) =
        let n = few (omega arith) in
        let c = count-minus x twice in
        inl (record { one = omega arith; apart = count-zero (bit_and x twice) (omega arith) })

-- ---- two lines

-- of bits: m is what x and y both hold, or what the others hold of the two
module _ (n x y w m : ℕ) (p : 2 * w ≤ n) (p' : n ≤ 1 + 8 * w) (l : x + y ≤ n) where
  meets : Both x y m → x + w ≤ 1 → m ≡ 0
  meets b h = omega arith

  meets' : Both x y m → y + w ≤ 1 → m ≡ 0
  meets' b h = omega arith

  none_of_lem : (o k a f : ℕ) → o + x + y ≤ n → Either x y k → Both o f a → Both a k m → x + w ≤ 1 → y + w ≤ 1 → m ≡ 0
  none_of_lem o k a f q e b c h g = omega arith

module _ (f : ℕ → ℕ) (i j : ℕ) (differ : i ≢ j) (hi : i < 9) (hj : j < 9) (lx : f i < 512) (ly : f j < 512) (free : ℕ) where
  klow : union (f i) (f j) < 2 ^ 16
  klow = omega (arith, sub-le (union-sub (sub-all (f i) lx) (sub-all (f j) ly)))

  none-at : {z : ℕ} → z ≡ 0 → (d : ℕ) → bit z d ≡ 0
  none-at e d = ap (λ (z : ℕ). bit z d) e ∙ bit-none d

  apart-at : (z w : ℕ) → bit_and z w ≡ 0 → (d : ℕ) → bit z d + bit w d ≤ 1
  apart-at z w e d = omega (arith, (both z w d).least, none-at e d)

  two_at : (d : ℕ) → bit (f i) d + bit (f j) d ≤ holders f d 9
  two_at d = two-held f d i j differ hi hj

  pub others-at : (d : ℕ) → OthersTell (tally_of f) (f i) (f j) d (holders f d 9)
  others-at d = others-tell (tally_of f) (f i) (f j) d (holders f d 9) (at_most f d 9) (tally-tells f d) (two_at d)

  meet-first : bit_and (f i) (tally_of f).twice ≡ 0 → bit_and (f i) (f j) ≡ 0
  meet-first e =
      ext (bit_and (f i) (f j)) 0
      (λ d. meets (holders f d 9) (bit (f i) d) (bit (f j) d) (bit (tally_of f).twice d) (bit (bit_and (f i) (f j)) d) (tally-tells f d).twice (tally-tells f d).not-twice (two_at d)
      (both (f i) (f j) d) (apart-at (f i) (tally_of f).twice e d) ∙ sym (bit-none d))

  meet-second : bit_and (f j) (tally_of f).twice ≡ 0 → bit_and (f i) (f j) ≡ 0
  meet-second e =
      ext (bit_and (f i) (f j)) 0
      (λ d. meets' (holders f d 9) (bit (f i) d) (bit (f j) d) (bit (tally_of f).twice d) (bit (bit_and (f i) (f j)) d) (tally-tells f d).twice (tally-tells f d).not-twice (two_at d)
      (both (f i) (f j) d) (apart-at (f j) (tally_of f).twice e d) ∙ sym (bit-none d))

  -- lines that share nothing
  sum : bit_and (f i) (f j) ≡ 0 → count (union (f i) (f j)) ≡ count (f i) + count (f j)
  sum e =
      let c = count-minus (union (f i) (f j)) (f i) in
      let p = ap count (sub-and (union_left (f i) (f j))) in
      let q : minus (union (f i) (f j)) (f i) ≡ f j = ext (minus (union (f i) (f j)) (f i)) (f j) (λ d. rest d) in
      let r = ap count q in
      omega arith
    where
      number : (a b u m : ℕ) → a + b ≤ 1 → Either a b u → Without u a m → m ≡ b
      number a b u m h e w = omega arith

      rest : (d : ℕ) → bit (minus (union (f i) (f j)) (f i)) d ≡ bit (f j) d
      rest d =
          number (bit (f i) d) (bit (f j) d) (bit (union (f i) (f j)) d) (bit (minus (union (f i) (f j)) (f i)) d) (apart-at (f i) (f j) e d) (either (f i) (f j) d) (without (union (f i) (f j)) (f i) d)

  -- more than two places
  pub many : 3 ≤ count (union (f i) (f j)) → lost_of (tally_of f) (f i) (f j) free ≡ 0
  many h = ap (bit_and (bit_and (others (tally_of f) (f i) (f j)) free)) (reach-more (union (f i) (f j)) klow h) ∙ and_zero_r (bit_and (others (tally_of f) (f i) (f j)) free)

  pub many-first : 3 ≤ count (f i) → lost_of (tally_of f) (f i) (f j) free ≡ 0
  many-first h = many (omega (arith, count-sub (union_left (f i) (f j))))

  pub alone-first : Alone (f i) (tally_of f).twice → 2 ≤ count (f j) → lost_of (tally_of f) (f i) (f j) free ≡ 0
  alone-first a h = many (omega (arith, sum (meet-first a.apart), a.one))

  pub alone-second : 2 ≤ count (f i) → Alone (f j) (tally_of f).twice → lost_of (tally_of f) (f i) (f j) free ≡ 0
  alone-second h a = many (omega (arith, sum (meet-second a.apart), a.one))

  pub alone-both : Alone (f i) (tally_of f).twice → Alone (f j) (tally_of f).twice → lost_of (tally_of f) (f i) (f j) free ≡ 0
  alone-both a b =
      reach-apart (union (f i) (f j)) klow (bit_and (others (tally_of f) (f i) (f j)) free) (omega (arith, sum (meet-first a.apart), a.one, b.one))
      (ext (bit_and (bit_and (others (tally_of f) (f i) (f j)) free) (union (f i) (f j))) 0 (λ d. none d ∙ sym (bit-none d)))
    where
      none : (d : ℕ) → bit (bit_and (bit_and (others (tally_of f) (f i) (f j)) free) (union (f i) (f j))) d ≡ 0
      none d =
          none_of_lem (holders f d 9) (bit (f i) d) (bit (f j) d) (bit (tally_of f).twice d) (bit (bit_and (bit_and (others (tally_of f) (f i) (f j)) free) (union (f i) (f j))) d)
          (tally-tells f d).twice (tally-tells f d).not-twice (two_at d) (bit (others (tally_of f) (f i) (f j)) d) (bit (union (f i) (f j)) d)
          (bit (bit_and (others (tally_of f) (f i) (f j)) free) d) (bit free d) (others-at d).some (either (f i) (f j) d) (both (others (tally_of f) (f i) (f j)) free d)
          (both (bit_and (others (tally_of f) (f i) (f j)) free) (union (f i) (f j)) d) (apart-at (f i) (tally_of f).twice a.apart d) (apart-at (f j) (tally_of f).twice b.apart d)

  -- two equal lines
  pub equal-two : f i ≡ f j → 2 ≤ count (f i) → bit_and (bit_and (f i) (tally_of f).thrice) free ≡ 0 → lost_of (tally_of f) (f i) (f j) free ≡ 0
  equal-two e h z =
      reach-apart (union (f i) (f j)) klow (bit_and (others (tally_of f) (f i) (f j)) free) (omega (arith, count-sub (union_left (f i) (f j))))
      (ext (bit_and (bit_and (others (tally_of f) (f i) (f j)) free) (union (f i) (f j))) 0 (λ d. none d ∙ sym (bit-none d)))
    where
      number : (n x y o s k a g b m : ℕ) → x ≡ y → o + x + y ≤ n → n ≤ 2 + 7 * s → Both x s b → b + g ≤ 1 → Either x y k → Both o g a → Both a k m → m ≡ 0
      number n x y o s k a g b m e p q u v w c r = omega arith

      none : (d : ℕ) → bit (bit_and (bit_and (others (tally_of f) (f i) (f j)) free) (union (f i) (f j))) d ≡ 0
      none d =
          number (holders f d 9) (bit (f i) d) (bit (f j) d) (bit (others (tally_of f) (f i) (f j)) d) (bit (tally_of f).thrice d) (bit (union (f i) (f j)) d)
          (bit (bit_and (others (tally_of f) (f i) (f j)) free) d) (bit free d) (bit (bit_and (f i) (tally_of f).thrice) d) (bit (bit_and (bit_and (others (tally_of f) (f i) (f j)) free) (union (f i) (f j))) d)
          (ap (λ (z : ℕ). bit z d) e) (others-at d).some (tally-tells f d).not-thrice (both (f i) (tally_of f).thrice d) (apart-at (bit_and (f i) (tally_of f).thrice) free z d)
          (either (f i) (f j) d) (both (others (tally_of f) (f i) (f j)) free d) (both (bit_and (others (tally_of f) (f i) (f j)) free) (union (f i) (f j)) d)
