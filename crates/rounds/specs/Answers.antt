-- The check of a printed answer against its grid, both as bytes.
use Rattle.std.specs.Prelude.{Bool, true, false, cond, not, ◌&&◌, List, ℕ, eqb, leb, length, get_or}
use Rattle.std.proofs.Math.Option.{Option, none, some}
use Rattle.grid.specs.Cells.{cells}
use Rattle.grid.specs.Fillings.{verified}
use Rattle.steps.specs.Loops.{first, all}
use Rattle.text.specs.Texts.{clues_of}
use Rattle.rounds.specs.declared.answers.Checked.{Checked}
use Rattle.rounds.specs.declared.answers.Checked.TheVariants as checked

-- a byte `1` to `9`
abbrev pub is_numeral : ℕ → Bool
is_numeral b = leb 49 b && leb b 57

-- "81 bytes `1` to `9`"
unfoldable pub is_full : List ℕ → Bool
is_full answer = eqb (length answer) 81 && all (λ c. is_numeral (get_or answer c 0)) cells

-- the grid has a digit, and the answer another byte
abbrev pub is_broken : ℕ → ℕ → Bool
is_broken clue digit = not (eqb digit clue) && is_numeral clue

-- "the first broken clue"
abbrev pub first_broken : List ℕ → List ℕ → Option ℕ
first_broken grid answer = first (λ c. is_broken (get_or grid c 0) (get_or answer c 0)) cells

-- "the first broken clue `clue CELL`; the verifier's no `wrong`; else `right`"
abbrev pub judged : Option ℕ → Bool → Checked
judged (some c) ok = checked.Clue c
judged none true = checked.Right
judged none false = checked.Wrong

-- "no separator `none`; not 81 bytes `1` to `9` `wrong`"
abbrev pub answer_check : List ℕ → List ℕ → Checked
answer_check grid answer = cond (is_full answer) (judged (first_broken grid answer) (verified (clues_of answer))) checked.Wrong

abbrev pub check_of : List ℕ → Option (List ℕ) → Checked
check_of grid none = checked.NoAnswer
check_of grid (some answer) = answer_check grid answer
