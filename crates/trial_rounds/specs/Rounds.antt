-- Trial rounds (document 02, F-11): a grid of clues from a starting number, a percentage and a solution.
use Rattle.std.specs.Prelude.{◌≡◌, Bool, cond, List, map, ℕ, zero, suc, ◌+◌, ◌*◌, ◌/◌, ◌%◌, leb, ltb, ℤ, pos, Result}
use Rattle.stops.specs.Answer.{Answer, gives, stop, passing, then, answer_of}
use Rattle.stops.specs.declared.Stop.{Stop}
use Rattle.stops.specs.declared.Stop.TheVariants.{BadPercentage, BadSolution}
use Rattle.grid.specs.Cells.{cells}
use Rattle.grid.specs.Fillings.{number_at, verified}

-- ---- the generator

-- it "goes from s to (1,103,515,245 times s + 12,345) modulo 2,147,483,648"
abbrev pub next_state : ℕ → ℕ
next_state s = (1103515245 * s + 12345) % 2147483648

-- after so many moves; "the given start .. is first reduced by that modulus"
unfoldable pub state_after : ℕ → ℕ → ℕ
state_after start zero = start % 2147483648
state_after start (suc n) = next_state (state_after start n)

-- ---- the clues

-- "exactly if (s / 65,536) modulo 100 is below the wanted percentage"
abbrev pub is_kept : ℕ → ℕ → Bool
is_kept s percentage = ltb (s / 65536 % 100) percentage

-- it "keeps the solution's digit as a clue"; else the cell is open
abbrev pub clue_of : ℕ → ℕ → ℤ → ℤ
clue_of s percentage digit = cond (is_kept s percentage) digit (pos 0)

-- "For each cell, rising, it makes one move and keeps": the moves up to cell c are c + 1
abbrev pub clue_at : ℕ → ℕ → List ℤ → ℕ → ℤ
clue_at start percentage solution c = clue_of (state_after start (suc c)) percentage (number_at solution c)

unfoldable pub round_clues : ℕ → ℕ → List ℤ → List ℤ
round_clues start percentage solution = map (clue_at start percentage solution) cells

-- ---- the call

-- "17, percentage above 100, with the percentage"
abbrev pub percentage_check : ℕ → Answer (Unit {0})
percentage_check percentage = cond (leb percentage 100) (gives tt) (stop (BadPercentage percentage))

-- "18, the solution does not pass the verifier, with detail 0"
abbrev pub solution_check : List ℤ → Answer (Unit {0})
solution_check solution = cond (verified solution) (gives tt) (stop BadSolution)

-- 17 "checked first; then 18"
unfoldable pub round_of : ℕ → ℕ → List ℤ → Answer (List ℤ)
round_of start percentage solution = passing (then (percentage_check percentage) (λ _. solution_check solution)) (round_clues start percentage solution)

-- what `trial_round` hands back: the round or the stop
abbrev pub Makes : ℕ → ℕ → List ℤ → Result (List ℤ) Stop → Type 0
Makes start percentage solution r = answer_of r ≡ round_of start percentage solution
