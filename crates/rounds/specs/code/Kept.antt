-- What comes of a line by its first bytes, those that are kept, and by the length of its grid.
use Rattle.std.specs.Prelude.{cond, List, ℕ, eqb, ltb, ℤ, pos, length, take, drop}
use Rattle.std.proofs.Math.Option.{Option, none, some}
use Rattle.stops.specs.Answer.{Answer, gives, stop}
use Rattle.stops.specs.declared.Stop.TheVariants.{TextLength}
use Rattle.steps.specs.Boards.{givens_of}
use Rattle.text.specs.Texts.{parse_of}
use Rattle.difficulty.specs.code.Rates.{rate_of}
use Rattle.card.specs.Cards.{card_for}
use Rattle.rounds.specs.declared.answers.Checked.{Checked}
use Rattle.rounds.specs.Lines.{bare_length, bare}
use Rattle.rounds.specs.Answers.{check_of}
use Rattle.rounds.specs.Rounds.{Outcome, handed_on, refused, scored}

-- the answer after a grid of 81 bytes
abbrev pub answer_after : List ℕ → Option (List ℕ)
answer_after text = cond (ltb 81 (length text)) (some (drop 82 text)) none

abbrev pub clues_outcome : List ℤ → Checked → Outcome
clues_outcome clues check = scored (card_for clues) (rate_of (givens_of clues)) check

abbrev pub read_outcome : Answer (List ℤ) → Checked → Outcome
read_outcome (gives clues) check = clues_outcome clues check
read_outcome (stop s) check = refused s

-- a text whose grid has 81 bytes
unfoldable pub scored_from : List ℕ → Outcome
scored_from text = read_outcome (parse_of (take 81 text)) (check_of (take 81 text) (answer_after text))

-- `whole` is the length of the line's grid, of which there may be more than is kept
unfoldable pub outcome_from : List ℕ → ℕ → Outcome
outcome_from kept whole =
    let text = scored_from (bare kept) in
    let long = refused (TextLength (pos whole)) in
    cond (eqb (bare_length kept) 0) handed_on (cond (eqb whole 81) text long)
