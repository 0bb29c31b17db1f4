-- The summary: "grids, finished, open, dead, refused, answers right and not".
use Rattle.std.specs.Prelude.{cond, List, [], ◌∷◌, ◌++◌, ℕ, ◌+◌, ltb, get_or, set, replicate}
use Rattle.steps.specs.Loops.{each}
use Rattle.board.specs.declared.Verdict.{Verdict}
use Rattle.board.specs.declared.Verdict.TheVariants as verdict
use Rattle.output.specs.Decimals.{decimal}
use Rattle.card.specs.Layout.{line_of, refused_label}
use Rattle.rounds.specs.declared.answers.Checked.{Checked}
use Rattle.rounds.specs.declared.answers.Checked.TheVariants as checked
use Rattle.rounds.specs.Lines.{lines_in}
use Rattle.rounds.specs.Rounds.{Outcome, handed_on, refused, scored, outcome_of}

-- where counting ends: more than any input has of anything
abbrev pub top : ℕ
top = 9223372036854775807

abbrev pub counted : ℕ → ℕ
counted n = cond (ltb n top) (n + 1) n

-- one more at a place of the tally
abbrev pub raised : ℕ → List ℕ → List ℕ
raised place tally = set tally place (counted (get_or tally place 0))

-- the seven numbers' places: 0 grids, 1 finished, 2 open, 3 dead, 4 refused, 5 right, 6 not
abbrev pub verdict_place : Verdict → ℕ
verdict_place verdict.Finished = 1
verdict_place verdict.Open = 2
verdict_place verdict.Dead = 3

-- an answer is right or not; where there is none, neither
abbrev pub check_tallied : Checked → List ℕ → List ℕ
check_tallied checked.NoAnswer tally = tally
check_tallied checked.Wrong tally = raised 6 tally
check_tallied (checked.Clue c) tally = raised 6 tally
check_tallied checked.Right tally = raised 5 tally

unfoldable pub tallied : Outcome → List ℕ → List ℕ
tallied handed_on tally = tally
tallied (refused s) tally = raised 4 (raised 0 tally)
tallied (scored card figure check) tally = check_tallied check (raised (verdict_place card.verdict) (raised 0 tally))

abbrev pub no_tally : List ℕ
no_tally = replicate 7 0

abbrev pub tally_of : List ℕ → List ℕ
tally_of input = each (λ line. tallied (outcome_of line)) (lines_in input) no_tally

-- "grids "
abbrev pub grids_label : List ℕ
grids_label = 103 ∷ 114 ∷ 105 ∷ 100 ∷ 115 ∷ 32 ∷ []

-- "finished "
abbrev pub finished_label : List ℕ
finished_label = 102 ∷ 105 ∷ 110 ∷ 105 ∷ 115 ∷ 104 ∷ 101 ∷ 100 ∷ 32 ∷ []

-- "open "
abbrev pub open_label : List ℕ
open_label = 111 ∷ 112 ∷ 101 ∷ 110 ∷ 32 ∷ []

-- "dead "
abbrev pub dead_label : List ℕ
dead_label = 100 ∷ 101 ∷ 97 ∷ 100 ∷ 32 ∷ []

-- "right "
abbrev pub right_label : List ℕ
right_label = 114 ∷ 105 ∷ 103 ∷ 104 ∷ 116 ∷ 32 ∷ []

-- "not "
abbrev pub not_label : List ℕ
not_label = 110 ∷ 111 ∷ 116 ∷ 32 ∷ []

-- a line for each number
unfoldable pub summary_bytes : List ℕ → List ℕ
summary_bytes tally =
    line_of grids_label (decimal (get_or tally 0 0))
    ++ line_of finished_label (decimal (get_or tally 1 0))
    ++ line_of open_label (decimal (get_or tally 2 0))
    ++ line_of dead_label (decimal (get_or tally 3 0))
    ++ line_of refused_label (decimal (get_or tally 4 0))
    ++ line_of right_label (decimal (get_or tally 5 0))
    ++ line_of not_label (decimal (get_or tally 6 0))
