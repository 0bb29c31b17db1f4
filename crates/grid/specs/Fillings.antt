-- Filled grids and the verifier (module 10). A grid is a list of 81 signed numbers, one for each cell.
use Rattle.std.specs.Prelude.{◌≡◌, ◌≢◌, Bool, true, false, not, ◌&&◌, ◌||◌, List, [], ◌∷◌, map, ℕ, ◌≤◌, ◌<◌, eqb, ℤ, pos, negsuc, length, get_or}
use Rattle.std.specs.Int.Signed.{le_z}
use Rattle.grid.specs.Lists.{all}
use Rattle.grid.specs.Cells.{cells}
use Rattle.grid.specs.Units.{units, unit_cell}

-- ---- the rules

-- the number in a cell; 0 past the grid
abbrev pub number_at : List ℤ → ℕ → ℤ
number_at g c = get_or g c (pos 0)

-- the number is a digit
pub record Digit (z : ℤ) : Type 0 where
  pub digit : ℕ
  pub low : 1 ≤ digit
  pub high : digit ≤ 9
  pub is : z ≡ pos digit

-- a correct filling: 81 digits, and at two different places of a row, column or box different ones
pub record Correct (g : List ℤ) : Type 0 where
  pub size : length g ≡ 81
  pub digits : (c : ℕ) → c < 81 → Digit (number_at g c)
  pub once : (u i j : ℕ) → u < 27 → i < 9 → j < 9 → i ≢ j → number_at g (unit_cell u i) ≢ number_at g (unit_cell u j)

-- ---- the verifier

-- 1 to 9
abbrev pub is_digit : ℤ → Bool
is_digit z = le_z (pos 1) z && le_z z (pos 9)

abbrev pub same_number : ℤ → ℤ → Bool
same_number (pos a) (pos b) = eqb a b
same_number (pos a) (negsuc b) = false
same_number (negsuc a) (pos b) = false
same_number (negsuc a) (negsuc b) = eqb a b

-- the number stands in the list
abbrev pub among : ℤ → List ℤ → Bool
among z [] = false
among z (x ∷ xs) = same_number z x || among z xs

-- no number comes twice
abbrev pub distinct : List ℤ → Bool
distinct [] = true
distinct (x ∷ xs) = not (among x xs) && distinct xs

-- "yes exactly if all 81 signed 32-bit numbers are 1 to 9 and no unit repeats one"
unfoldable pub verified : List ℤ → Bool
verified g = all (λ c. is_digit (number_at g c)) cells && all (λ cs. distinct (map (number_at g) cs)) units
