-- Masks: sets of digits as numbers. "A mask has 9 bits; bit d - 1 is digit d; 511 is all."
-- A digit is spoken of by its place, digit d by place d - 1, here and in every definition above this one.
use Rattle.std.specs.Prelude.{◌≡◌, ◌≢◌, Bool, true, cond, ℕ, zero, suc, ◌+◌, ◌-◌, ◌/◌, ◌%◌, ◌^◌, ◌≤◌, eqb, ltb}
use Rattle.std.specs.Int.Bits.{bit_and, bit_or}
use Rattle.std.specs.Int.Count.{ones}

-- 1 where the mask x holds the digit at place d, else 0
abbrev pub bit : ℕ → ℕ → ℕ
bit x d = x / 2 ^ d % 2

abbrev pub has : ℕ → ℕ → Bool
has x d = eqb (bit x d) 1

-- every digit of x is one of y
pub record Sub (x y : ℕ) : Type 0 where
  pub at : (d : ℕ) → bit x d ≤ bit y d

-- d and no other digit
pub record One (x d : ℕ) : Type 0 where
  pub held : has x d ≡ true
  pub alone : (e : ℕ) → has x e ≡ true → e ≡ d

-- a and b, and it may be others
pub record More (x a b : ℕ) : Type 0 where
  pub apart : a ≢ b
  pub held₁ : has x a ≡ true
  pub held₂ : has x b ≡ true

-- "Higher bits in a set that a caller made are dropped first"
abbrev pub low_nine : ℕ → ℕ
low_nine x = x % 512

-- x without the digits of k
abbrev pub minus : ℕ → ℕ → ℕ
minus x k = x - bit_and x k

abbrev pub union : ℕ → ℕ → ℕ
union x y = bit_or x y

-- how many digits
abbrev pub count : ℕ → ℕ
count x = ones x

-- the mask of the digit at place d
abbrev pub single : ℕ → ℕ
single d = 2 ^ d

-- the same in code, where a mask has 16 places: none past them
abbrev pub place_mask : ℕ → ℕ
place_mask d = cond (ltb d 16) (single d) 0

-- the first of the n places from d on that x holds; d + n where it holds none of them
unfoldable pub first_place : ℕ → ℕ → ℕ → ℕ
first_place zero d x = d
first_place (suc n) d x = let r = first_place n (suc d) x in cond (has x d) d r

-- the place of the lowest digit; 16 where there is none
abbrev pub lowest : ℕ → ℕ
lowest x = first_place 16 0 x

-- x without its lowest digit
abbrev pub tail : ℕ → ℕ
tail x = minus x (single (lowest x))

-- the places below n that pass a test
unfoldable pub gather : (ℕ → Bool) → ℕ → ℕ
gather f zero = 0
gather f (suc n) = gather f n + cond (f n) (single n) 0
