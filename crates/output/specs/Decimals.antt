-- Numbers in decimal, as bytes.
use Rattle.std.specs.Prelude.{cond, List, [], ◌∷◌, ◌++◌, ℕ, zero, suc, ◌+◌, ◌/◌, ◌%◌, ltb}

-- `0` is byte 48
abbrev pub digit_byte : ℕ → ℕ
digit_byte d = 48 + d

-- the digits of n, at most k of them, the last one last
unfoldable pub digits_in : ℕ → ℕ → List ℕ
digits_in zero n = []
digits_in (suc k) n =
    let before = digits_in k (n / 10) in
    cond (ltb n 10) (digit_byte n ∷ []) (before ++ (digit_byte (n % 10) ∷ []))

-- n + 1 are more than n has
unfoldable pub decimal : ℕ → List ℕ
decimal n = digits_in (suc n) n
