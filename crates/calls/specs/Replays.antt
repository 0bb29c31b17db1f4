-- Lists of step numbers, run from "the fresh board of one clue grid with one set of entries" (document 02, F-7).
use Rattle.std.specs.Prelude.{◌≡◌, not, List, [], ◌∷◌, ℕ, ℤ, length, get_or, Result, Ok, Err}
use Rattle.std.proofs.Math.Option.{Option, none, some}
use Rattle.stops.specs.Answer.{Answer, gives, stop, map}
use Rattle.steps.specs.Boards as S
use Rattle.steps.specs.Calls.{Call, run}
use Rattle.steps.specs.Loops.{first, up_to}
use Rattle.board.specs.Boards.{board_of, open_with_of}
use Rattle.board.specs.declared.Board.{Board}
use Rattle.calls.specs.StepNumbers.{step_call, is_step}
use Rattle.calls.specs.declared.ReplayError.{ReplayError}
use Rattle.calls.specs.declared.ReplayError.TheVariants.{NoStep, Refused}

-- the index of the first number that is no step's
unfoldable pub first_no_step : List ℕ → Option ℕ
first_no_step ns = first (λ i. not (is_step (get_or ns i 0))) (up_to (length ns))

-- the calls of a list of step numbers
abbrev pub cons_call : Option Call → List Call → List Call
cons_call none ks = ks
cons_call (some k) ks = k ∷ ks

unfoldable pub calls_of : List ℕ → List Call
calls_of [] = []
calls_of (n ∷ ns) = cons_call (step_call n) (calls_of ns)

-- the board after a list of steps; or the index of the first number that is no step's, and then nothing is run
pub data Run : Type 0 where
  ran : S.Board → Run
  no_step : ℕ → Run

abbrev pub run_or : Option ℕ → List Call → S.Board → Run
run_or none ks b = ran (run ks b)
run_or (some i) ks b = no_step i

-- the stops of clues and entries come first
unfoldable pub replay_of : List ℤ → List ℤ → List ℕ → Answer Run
replay_of clues entries ns = map (run_or (first_no_step ns) (calls_of ns)) (open_with_of clues entries)

-- what `replay` returns, as its answer
abbrev pub replaying : Result Board ReplayError → Answer Run
replaying (Ok b) = gives (ran (board_of b))
replaying (Err (Refused s)) = stop s
replaying (Err (NoStep i)) = gives (no_step i)

-- what `replay` hands back
abbrev pub Replays : List ℤ → List ℤ → List ℕ → Result Board ReplayError → Type 0
Replays clues entries ns r = replaying r ≡ replay_of clues entries ns
