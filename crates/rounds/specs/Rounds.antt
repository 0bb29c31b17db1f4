-- What the program `round` prints of each line, and of the whole input.
use Rattle.std.specs.Prelude.{cond, List, [], ◌∷◌, ◌++◌, ℕ, ℤ}
use Rattle.stops.specs.Answer.{Answer, gives, stop}
use Rattle.stops.specs.declared.Stop.{Stop}
use Rattle.steps.specs.Calls.{opened}
use Rattle.steps.specs.Difficulty.{Figure, difficulty_of}
use Rattle.steps.specs.Loops.{for}
use Rattle.text.specs.Texts.{parse_of}
use Rattle.output.specs.Decimals.{decimal}
use Rattle.card.specs.declared.layout.Card.{Card}
use Rattle.card.specs.Cards.{card_for, verdict_word}
use Rattle.card.specs.Layout.{refusal_bytes}
use Rattle.rounds.specs.declared.answers.Checked.{Checked}
use Rattle.rounds.specs.declared.answers.Checked.TheVariants as checked
use Rattle.rounds.specs.Answers.{check_of}
use Rattle.rounds.specs.Lines.{lines_in, bare, is_handed_on, grid_in, answer_in}

-- ---- what comes of a line

-- it is handed on; its grid is refused; or the grid's card, its difficulty and the check of the answer
pub data Outcome : Type 0 where
  handed_on : Outcome
  refused : Stop → Outcome
  scored : Card → Answer Figure → Checked → Outcome

-- by what the reader says of the grid
abbrev pub grid_outcome : Answer (List ℤ) → Checked → Outcome
grid_outcome (gives clues) check = scored (card_for clues) (difficulty_of (opened clues)) check
grid_outcome (stop s) check = refused s

abbrev pub text_outcome : List ℕ → Outcome
text_outcome text = grid_outcome (parse_of (grid_in text)) (check_of (grid_in text) (answer_in text))

unfoldable pub outcome_of : List ℕ → Outcome
outcome_of line = cond (is_handed_on line) handed_on (text_outcome (bare line))

-- ---- its bytes

-- "fields by spaces"
unfoldable pub field : List ℕ → List ℕ
field bytes = bytes ++ (32 ∷ [])

-- "none"
abbrev pub none_word : List ℕ
none_word = 110 ∷ 111 ∷ 110 ∷ 101 ∷ []

-- "difficulty as `quotient+remainder/cells` (`none` where stop 19)"
unfoldable pub figure_bytes : Answer Figure → List ℕ
figure_bytes (gives f) = decimal f.quotient ++ (43 ∷ []) ++ decimal f.remainder ++ (47 ∷ []) ++ decimal f.cells
figure_bytes (stop s) = none_word

-- "none", "wrong", "clue CELL", "right"
unfoldable pub check_bytes : Checked → List ℕ
check_bytes checked.NoAnswer = none_word
check_bytes checked.Wrong = 119 ∷ 114 ∷ 111 ∷ 110 ∷ 103 ∷ []
check_bytes (checked.Clue c) = (99 ∷ 108 ∷ 117 ∷ 101 ∷ 32 ∷ []) ++ decimal c
check_bytes checked.Right = 114 ∷ 105 ∷ 103 ∷ 104 ∷ 116 ∷ []

-- "clues, reported, sweeps, removed, verdict, difficulty .., and of the answer"
unfoldable pub score_bytes : Card → Answer Figure → Checked → List ℕ
score_bytes card figure check =
    field (decimal card.clues)
    ++ field (decimal card.reported)
    ++ field (decimal card.sweeps)
    ++ field (decimal card.removed)
    ++ field (verdict_word card.verdict)
    ++ field (figure_bytes figure)
    ++ check_bytes check
    ++ (10 ∷ [])

-- the line that is printed, with its byte 10; "Where the grid is refused `refused N P`."
abbrev pub outcome_bytes : List ℕ → Outcome → List ℕ
outcome_bytes line handed_on = line ++ (10 ∷ [])
outcome_bytes line (refused s) = refusal_bytes s
outcome_bytes line (scored card figure check) = score_bytes card figure check

unfoldable pub round_line : List ℕ → List ℕ
round_line line = outcome_bytes line (outcome_of line)

-- "output line i is of input line i"
abbrev pub round_output : List ℕ → List ℕ
round_output input = for (lines_in input) round_line
