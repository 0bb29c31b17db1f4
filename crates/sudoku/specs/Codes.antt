-- Answers as numbers, for callers in other languages: four of them, the stop's number (0 where the call answered), what stands beside the stop, the value and the mask.
use Rattle.std.specs.Prelude.{Bool, cond, List, [], ◌∷◌, ℕ, ℤ, pos, negsuc}
use Rattle.stops.specs.Answer.{Answer, gives, stop}
use Rattle.stops.specs.Stops.{row_of}
use Rattle.stops.specs.declared.Stop.{Stop}

abbrev pub four : ℤ → ℤ → ℤ → ℤ → List ℤ
four stopped beside value mask = stopped ∷ beside ∷ value ∷ mask ∷ []

-- a call that cannot be refused
abbrev pub given : ℤ → ℕ → List ℤ
given value mask = four (pos 0) (pos 0) value (pos mask)

abbrev pub refused : Stop → ℕ → List ℤ
refused s mask = four (pos (row_of s).number) (row_of s).detail (pos 0) (pos mask)

-- an answer's value as a number, and the mask that the call leaves
abbrev pub coded : Answer ℤ → ℕ → List ℤ
coded (gives z) mask = given z mask
coded (stop s) mask = refused s mask

abbrev pub test_number : Bool → ℤ
test_number t = cond t (pos 1) (pos 0)

-- a value that is no number, or stands elsewhere
abbrev pub no_number : {A : Type 0} → A → ℤ
no_number a = pos 0

-- a call number that stands for nothing: -1 and the number
abbrev pub unknown : ℕ → List ℤ
unknown k = four (negsuc 0) (pos k) (pos 0) (pos 0)

-- which parameters the exports have: raised where those of one of them change, since a C linker does not see that
abbrev pub abi_number : ℕ
abi_number = 5
