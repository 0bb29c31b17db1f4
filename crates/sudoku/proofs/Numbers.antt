-- Four numbers are equal one by one.
use mathlib.Core.Path.{◌≡◌}
use lib.IntN.{ℤ}
use Rattle.sudoku.specs.Codes.{four}

pub four_same : {a b c d p q r s : ℤ} → a ≡ p → b ≡ q → c ≡ r → d ≡ s → four a b c d ≡ four p q r s
four_same e f g h = λ i. four (e i) (f i) (g i) (h i)
