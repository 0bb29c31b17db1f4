-- The checksums that the checking programs print; the scripts that compute the expected outputs have the same ones.
use Rattle.std.specs.Prelude.{List, ℕ, zero, suc, ◌+◌, ◌*◌, ◌%◌, get_or}

-- a number joins a checksum
abbrev pub folded : ℕ → ℕ → ℕ
folded sum n = (sum % 72057594037927931 * 31 + n) % 72057594037927931

-- the checksum of the first k numbers
abbrev pub sum_of : List ℕ → ℕ → ℕ
sum_of l zero = 0
sum_of l (suc k) = folded (sum_of l k) (get_or l k 0)
