-- Unions of nine masks: what they hold, what two of them hold, and what those hold that have more than one digit.
use Rattle.std.specs.Prelude.{cond, List, [], ◌∷◌, ℕ, eqb}
use Rattle.std.specs.Int.Bits.{bit_and}
use Rattle.candidates.specs.Masks.{has, union, count}
use Rattle.steps.specs.Boards.{at}
use Rattle.steps.specs.Loops.{each, up_to}

unfoldable pub joined : List ℕ → ℕ
joined nine = each (λ i k. union k (at nine i)) (up_to 9) 0

-- what the masks at these places hold
unfoldable pub joined_at : List ℕ → ℕ → ℕ
joined_at nine places = each (λ i k. union k (cond (has places i) (at nine i) 0)) (up_to 9) 0

-- the digits that two of the masks at these places hold, where those before hold `seen`, and two of them `shared`
unfoldable pub shared_from : List ℕ → List ℕ → ℕ → ℕ → ℕ
shared_from nine [] seen shared = shared
shared_from nine (i ∷ is) seen shared = shared_from nine is (union seen (at nine i)) (union shared (bit_and seen (at nine i)))

unfoldable pub shared_of : List ℕ → ℕ
shared_of nine = shared_from nine (up_to 9) 0 0

-- a mask, or none if it has one digit
abbrev pub several_in : ℕ → ℕ
several_in x = cond (eqb (count x) 1) 0 x

unfoldable pub several_of : List ℕ → ℕ
several_of nine = each (λ i k. union k (several_in (at nine i))) (up_to 9) 0
