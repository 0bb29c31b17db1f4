-- A number in decimal by its last digit and what stands before it, and how many digits it has. Assumes nothing.
use mathlib.Core.Path.{◌≡◌, subst, sym, ap, ◌∙◌}
use mathlib.Core.List.{List, [], ◌∷◌, ◌++◌}
use Prim.Native.Nat.{ℕ, zero, suc, ◌*◌, ◌/◌, ◌%◌, ◌^◌, ◌≤◌, ◌<◌}
use native.Mathlib.Decide.{dec_lt}
use native.Mathlib.Nat.{div-lt_self, pow-suc}
use native.Mathlib.Omega.{arith}
use borrow.Author.Tests.{lt-ltb, le-ltb}
use lib.Dec.{ltb}
use lib.ListN.{length, length-append}
use Rattle.candidates.proofs.Tests.{cond-true, cond-false}
use Rattle.output.specs.Decimals.{digit_byte, digits_in, decimal}

module _ (k n : ℕ) where
  one-digit : n < 10 → digits_in (suc k) n ≡ digit_byte n ∷ []
  unfolding digits_in
  one-digit h = cond-true (ltb n 10) (digit_byte n ∷ []) (digits_in k (n / 10) ++ (digit_byte (n % 10) ∷ [])) (lt-ltb n 10 h)

  more-digits : 10 ≤ n → digits_in (suc k) n ≡ digits_in k (n / 10) ++ (digit_byte (n % 10) ∷ [])
  unfolding digits_in
  more-digits h = cond-false (ltb n 10) (digit_byte n ∷ []) (digits_in k (n / 10) ++ (digit_byte (n % 10) ∷ [])) (le-ltb n 10 h)

-- room for more digits than there are changes nothing
digits-enough : (k j n : ℕ) → n < k → n < j → digits_in k n ≡ digits_in j n
digits-enough zero j n h l = absurd (omega arith)
digits-enough (suc k) zero n h l = absurd (omega arith)
digits-enough (suc k) (suc j) n h l = go (dec_lt n 10) (digits-enough k j (n / 10))
  where
    go : Dec (n < 10) → (n / 10 < k → n / 10 < j → digits_in k (n / 10) ≡ digits_in j (n / 10)) → digits_in (suc k) n ≡ digits_in (suc j) n
    go (yes s) ih = one-digit k n s ∙ sym (one-digit j n s)
    go (no s) ih =
        let b : n / 10 < n = div-lt_self (omega arith) (omega arith) in
        more-digits k n (omega arith) ∙ ap (λ (l : List ℕ). l ++ (digit_byte (n % 10) ∷ [])) (ih (omega arith) (omega arith)) ∙ sym (more-digits j n (omega arith))

module _ (n : ℕ) where
  pub decimal-one : n < 10 → decimal n ≡ digit_byte n ∷ []
  unfolding decimal
  decimal-one h = one-digit n n h

  pub decimal-more : 10 ≤ n → decimal n ≡ decimal (n / 10) ++ (digit_byte (n % 10) ∷ [])
  unfolding decimal
  decimal-more h =
      let b : n / 10 < n = div-lt_self (omega arith) (omega arith) in
      more-digits n n h ∙ ap (λ (l : List ℕ). l ++ (digit_byte (n % 10) ∷ [])) (digits-enough n (suc (n / 10)) (n / 10) b (omega arith))

-- a number below 10 ^ (j + 1) has at most j + 1 digits
digits-few : (k j n : ℕ) → n < 10 ^ suc j → length (digits_in k n) ≤ suc j
unfolding digits_in
digits-few zero j n h = omega arith
digits-few (suc k) j n h = go j h (dec_lt n 10) (λ i. digits-few k i (n / 10))
  where
    go : (j : ℕ) → n < 10 ^ suc j → Dec (n < 10) → ((i : ℕ) → n / 10 < 10 ^ suc i → length (digits_in k (n / 10)) ≤ suc i) → length (digits_in (suc k) n) ≤ suc j
    go j h (yes s) ih = omega (arith, ap length (one-digit k n s))
    go zero h (no s) ih = absurd (omega arith)
    go (suc j) h (no s) ih =
        let p = 10 ^ suc j in
        let q : n < p * 10 = subst (λ (m : ℕ). n < m) (pow-suc 10 (suc j)) h in
        let b : n / 10 < p = omega arith in
        omega (arith, ap length (more-digits k n (omega arith)), length-append (digits_in k (n / 10)) (digit_byte (n % 10) ∷ []), ih j b)

pub decimal-few : (j n : ℕ) → n < 10 ^ suc j → length (decimal n) ≤ suc j
unfolding decimal
decimal-few j n h = digits-few (suc n) j n h
