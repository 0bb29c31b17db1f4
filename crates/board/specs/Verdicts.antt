-- What a verdict says of the puzzle, beyond the demands: on which boards it does is calls/specs/Verdicts, and of a card card/specs/Cards.
use Rattle.std.specs.Prelude.{◌≡◌, List, ℕ, ℤ}
use Rattle.grid.specs.Fillings.{Correct}
use Rattle.board.specs.Boards.{only_digits, verdict_of}
use Rattle.board.specs.declared.Verdict.TheVariants.{Dead, Finished}

-- Which fillings count is a parameter, `kept`: those that keep the clues, and the entries then on the board.

-- a correct filling that counts, and the only one
pub record OneSolution (kept : List ℤ → Type 0) (f : List ℤ) : Type 0 where
  pub correct : Correct f
  pub keeps : kept f
  pub only : (e : List ℤ) → Correct e → kept e → e ≡ f

-- m are the masks of a board
pub record VerdictSays (kept : List ℤ → Type 0) (m : List ℕ) : Type 0 where
  -- `finished`: the 81 digits are the puzzle's one solution
  pub finished : verdict_of m ≡ Finished → OneSolution kept (only_digits m)
  -- `dead`: the puzzle has none
  pub dead : verdict_of m ≡ Dead → (f : List ℤ) → Correct f → ¬ (kept f)
