-- The board calls by step number on arrays: the four numbers, the masks, and the reports as bytes.
use Rattle.std.specs.Prelude.{Bool, cond, List, ℕ, ◌+◌, ◌*◌, eqb, ltb, ℤ, pos, length, get_or, set, replicate}
use Rattle.std.proofs.Math.Option.{Option, none, some}
use Rattle.stops.specs.Answer.{Answer, gives, stop}
use Rattle.steps.specs.Boards.{Board}
use Rattle.steps.specs.Calls.{Outcome}
use Rattle.steps.specs.Loops.{each, up_to}
use Rattle.techniques.specs.Reports.{reports_of}
use Rattle.techniques.specs.declared.singles.Reports.{Reports}
use Rattle.calls.specs.Replays.{Run, ran, no_step, replay_of}
use Rattle.calls.specs.StepNumbers.{step_answer, step_left, outcome_or}
use Rattle.sudoku.specs.Codes.{four, given, refused, test_number, unknown}

-- ---- a step

-- step 12, settling, has its sweeps and the removed candidates; the others the flag and the number of reports
abbrev pub values_code : ℕ → Bool → ℕ → ℕ → ℕ → List ℤ
values_code n flag reports sweeps removed =
    cond (eqb n 12) (four (pos 0) (pos 0) (pos sweeps) (pos removed)) (four (pos 0) (pos 0) (test_number flag) (pos reports))

-- a number that is no step's is -1, as for every call number
abbrev pub answer_code : ℕ → Option (Answer Outcome) → List ℤ
answer_code n none = unknown n
answer_code n (some (gives o)) = values_code n o.flag (length o.reports) o.sweeps o.removed
answer_code n (some (stop s)) = refused s 0

abbrev pub step_code : ℕ → Board → List ℤ
step_code n b = answer_code n (step_answer n b)

abbrev pub step_masks : ℕ → Board → List ℕ
step_masks n b = (step_left b (step_answer n b)).masks

-- report i is the bytes 2i, its cell, and 2i + 1, its digit
abbrev pub put_report : List ℕ → List ℕ → ℕ → List ℕ → List ℕ
put_report cells digits i bytes = set (set bytes (2 * i) (get_or cells i 0)) (2 * i + 1) (get_or digits i 0)

-- a value has room for 324
abbrev pub used : ℕ → ℕ
used n = cond (ltb n 324) n 324

-- the other bytes of 648 are 0
unfoldable pub report_bytes : Reports → List ℕ
report_bytes q = each (put_report q.cells q.digits) (up_to (used q.count)) (replicate 648 0)

abbrev pub outcome_bytes : Outcome → List ℕ
outcome_bytes o = report_bytes (reports_of o.reports)

abbrev pub step_reports : ℕ → Board → List ℕ → List ℕ
step_reports n b lent = outcome_or lent outcome_bytes (step_answer n b)

-- ---- a list of steps from the fresh board of clues and entries

-- 20, which is no stop of the paper, with the index of the first number that is no step's
abbrev pub ran_code : Answer Run → List ℤ
ran_code (gives (ran b)) = given (pos 0) 0
ran_code (gives (no_step i)) = four (pos 20) (pos i) (pos 0) (pos 0)
ran_code (stop s) = refused s 0

abbrev pub ran_masks : Answer Run → List ℕ → List ℕ
ran_masks (gives (ran b)) lent = b.masks
ran_masks (gives (no_step i)) lent = lent
ran_masks (stop s) lent = lent

abbrev pub run_code : List ℤ → List ℤ → List ℕ → List ℤ
run_code clues entries steps = ran_code (replay_of clues entries steps)

abbrev pub run_masks : List ℤ → List ℤ → List ℕ → List ℕ → List ℕ
run_masks clues entries steps lent = ran_masks (replay_of clues entries steps) lent
