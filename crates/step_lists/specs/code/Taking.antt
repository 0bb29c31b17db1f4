-- How one instance is taken: its tests over places and digits, and what it loses.
use Rattle.std.specs.Prelude.{◌≡◌, ◌⊎◌, Bool, ◌&&◌, List, ℕ, eqb}
use Rattle.std.specs.Int.Bits.{bit_and}
use Rattle.candidates.specs.Masks.{minus}
use Rattle.steps.specs.code.Decoding.{is_digit, no_parts}
use Rattle.cells.specs.code.Meets.{met_unit}
use Rattle.cells.specs.code.Places.{held_places}

-- rows and then columns, or columns and then rows
abbrev pub Across : ℕ → ℕ → Type 0
Across f h = ((f ≡ 0) × (h ≡ 9)) ⊎ ((f ≡ 9) × (h ≡ 0))

-- a mask has no digit outside k
abbrev pub within_digits : ℕ → ℕ → Bool
within_digits x k = eqb (bit_and x (minus 511 k)) 0

-- the cells of a unit that hold d are at the places of ok
abbrev pub confined_to : List ℕ → ℕ → ℕ → ℕ → Bool
confined_to m u d ok = eqb (minus (held_places m u d) ok) 0

-- the parts of Pointing or Claiming, where k is to be the number of v among the units that meet u
abbrev pub is_met : ℕ → ℕ → ℕ → ℕ → ℕ → ℕ → Bool
is_met u k v d y z = is_digit d && (eqb (met_unit u k) v && no_parts y z)
