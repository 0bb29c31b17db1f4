-- The 36 pairs of numbers 0 to 8, the first below the second: the table, and a loop over it. Assumes nothing.
use mathlib.Core.Path.{◌≡◌, refl}
use mathlib.Core.Bool.{Bool}
use Prim.Native.Nat.{ℕ, ◌+◌, ◌-◌, ◌*◌, ◌/◌, ◌<◌}
use native.Mathlib.Omega.{arith}
use borrow.Author.Tests.{lt-ltb}
use lib.Dec.{T, eqb, ltb, eqb→eq, ltb→lt}
use Rattle.candidates.proofs.Tests.{all_below, below, below_both, implies, implied}
use Rattle.steps.specs.Loops.{each, up_to, above}
use Rattle.pair_cross.specs.code.Twos.{first_of, second_of}

pub second_below : (p : ℕ) → p < 36 → second_of p < 9
unfolding second_of
second_below p h = ltb→lt (second_of p) 9 (below 36 (λ p. ltb (second_of p) 9) tt p h)

pub rise : (p : ℕ) → p < 36 → first_of p < second_of p
unfolding first_of second_of
rise p h = ltb→lt (first_of p) (second_of p) (below 36 (λ p. ltb (first_of p) (second_of p)) tt p h)

pub first_below : (p : ℕ) → p < 36 → first_of p < 9
unfolding first_of
first_below p h = ltb→lt (first_of p) 9 (below 36 (λ p. ltb (first_of p) 9) tt p h)

-- where in the table a pair stands
unfoldable pub pair_at : ℕ → ℕ → ℕ
pair_at a b = a * 8 - a * (a - 1) / 2 + (b - a - 1)

pub at_pair : (p : ℕ) → p < 36 → pair_at (first_of p) (second_of p) ≡ p
unfolding pair_at first_of second_of
at_pair p h = eqb→eq (pair_at (first_of p) (second_of p)) p (below 36 (λ p. eqb (pair_at (first_of p) (second_of p)) p) tt p h)

pub record Paired (a b : ℕ) : Type 0 where
  pub listed : pair_at a b < 36
  pub first : first_of (pair_at a b) ≡ a
  pub second : second_of (pair_at a b) ≡ b

pub paired : (a b : ℕ) → a < b → b < 9 → Paired a b
unfolding pair_at first_of second_of
paired a b h l =
    record {
      listed = ltb→lt (pair_at a b) 36 (test (λ a b. ltb (pair_at a b) 36) tt);
      first = eqb→eq (first_of (pair_at a b)) a (test (λ a b. eqb (first_of (pair_at a b)) a) tt);
      second = eqb→eq (second_of (pair_at a b)) b (test (λ a b. eqb (second_of (pair_at a b)) b) tt);
    }
  where
    test : (f : ℕ → ℕ → Bool) → T (all_below 9 (λ a. all_below 9 (λ b. implies (ltb a b) (f a b)))) → T (f a b)
    test f t = implied (ltb a b) (f a b) (below_both 9 9 (λ a b. implies (ltb a b) (f a b)) t a b (omega arith) l) (lt-ltb a b h)

pub each_two : {S : Type 0} (f : ℕ → ℕ → S → S) (s : S) → each (λ i. each (f i) (above i 9)) (up_to 9) s ≡ each (λ p. f (first_of p) (second_of p)) (up_to 36) s
unfolding each first_of second_of
each_two f s = refl
