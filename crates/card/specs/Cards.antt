-- The card (module 15): what stands on it, and its bytes.
use Rattle.std.specs.Prelude.{◌≡◌, cond, List, [], ◌∷◌, ◌++◌, ℕ, ◌-◌, eqb, ℤ, length, get_or, take}
use Rattle.stops.specs.Answer.{Answer, gives, stop, map, value_or}
use Rattle.grid.specs.Cells.{cells}
use Rattle.grid.specs.Fillings.{Correct}
use Rattle.steps.specs.Boards.{givens_of, fresh}
use Rattle.steps.specs.Calls.{advanced_call, settling_call, outcome}
use Rattle.steps.specs.Fillings.{KeepsClues}
use Rattle.board.specs.Boards.{clue_count, only_digits, verdict_of}
use Rattle.board.specs.Verdicts.{OneSolution}
use Rattle.board.specs.declared.Verdict.{Verdict}
use Rattle.board.specs.declared.Verdict.TheVariants as verdict
use Rattle.text.specs.Texts.{parse_of}
use Rattle.card.specs.declared.layout.Card.{Card}
use Rattle.output.specs.Decimals.{decimal}
use Rattle.card.specs.Layout.{line_of, clues_label, reported_label, sweeps_label, removed_label, verdict_label, grid_label, grid_bytes, refusal_bytes}

-- ---- what stands on a card

-- how many bytes there are without one final byte b
abbrev pub length_without : ℕ → List ℕ → ℕ
length_without b input = cond (eqb (get_or input (length input - 1) 0) b) (length input - 1) (length input)

-- how many bytes the text has: "drops one final newline (byte 10)"
abbrev pub text_length : List ℕ → ℕ
text_length input = length_without 10 input

abbrev pub text_in : List ℕ → List ℕ
text_in input = take (text_length input) input

-- "clues; singles reported by `apply_advanced_techniques` on the fresh board; settling from fresh; verdict of the settled board; there each cell's only digit": g is what the cells are given, and f the fresh masks
abbrev pub card_from : List ℕ → List ℕ → Card
card_from g f =
    let settled = outcome settling_call g f in
    record {
      clues = clue_count g cells;
      reported = length (outcome advanced_call g f).reports;
      sweeps = settled.sweeps;
      removed = settled.removed;
      verdict = verdict_of settled.masks;
      masks = settled.masks;
    }

unfoldable pub card_for : List ℤ → Card
card_for clues = card_from (givens_of clues) (fresh (givens_of clues))

-- the card of the clues, or the stop of the reader
unfoldable pub card_of : List ℕ → Answer Card
card_of input = map card_for (parse_of (text_in input))

-- ---- its bytes

-- "dead", "finished", "open"
abbrev pub verdict_word : Verdict → List ℕ
verdict_word verdict.Dead = 100 ∷ 101 ∷ 97 ∷ 100 ∷ []
verdict_word verdict.Finished = 102 ∷ 105 ∷ 110 ∷ 105 ∷ 115 ∷ 104 ∷ 101 ∷ 100 ∷ []
verdict_word verdict.Open = 111 ∷ 112 ∷ 101 ∷ 110 ∷ []

unfoldable pub card_bytes : Card → List ℕ
card_bytes card =
    line_of clues_label (decimal card.clues)
    ++ line_of reported_label (decimal card.reported)
    ++ line_of sweeps_label (decimal card.sweeps)
    ++ line_of removed_label (decimal card.removed)
    ++ line_of verdict_label (verdict_word card.verdict)
    ++ line_of grid_label (grid_bytes card.masks)

-- "prints the lines below, or `refused N P`"
abbrev pub printed : Answer Card → List ℕ
printed (gives card) = card_bytes card
printed (stop s) = refusal_bytes s

-- what is written of a card, and of a refusal: nothing of the other
abbrev pub card_lines : Answer Card → List ℕ
card_lines a = value_or [] (map card_bytes a)

abbrev pub refusal_line : Answer ℕ → List ℕ
refusal_line (gives n) = []
refusal_line (stop s) = refusal_bytes s

-- ---- what its verdict says

-- Beyond the demands: a finished card is of a puzzle with one solution, the digits of its last line, and a dead one of a puzzle with none.
pub record CardSays (clues : List ℤ) : Type 0 where
  pub finished : (card_for clues).verdict ≡ verdict.Finished → OneSolution (KeepsClues clues) (only_digits (card_for clues).masks)
  pub dead : (card_for clues).verdict ≡ verdict.Dead → (f : List ℤ) → Correct f → ¬ (KeepsClues clues f)

pub record CardsSay : Type 0 where
  pub read : (input : List ℕ) (clues : List ℤ) → parse_of (text_in input) ≡ gives clues → CardSays clues
