-- What document 02, F-11 promises of every trial round, of what `trial_round` hands back. proofs/Promises.antt shows it.
use Rattle.std.specs.Prelude.{◌≡◌, true, List, [], ◌∷◌, ℕ, ◌+◌, ℤ, length, Result, Ok}
use Rattle.stops.specs.Answer.{gives}
use Rattle.grid.specs.Fillings.{Correct, verified}
use Rattle.steps.specs.Boards.{no_entries}
use Rattle.steps.specs.Calls.{Clues, settling_call, without_ported}
use Rattle.steps.specs.Entries.{Deed, step, calls_in}
use Rattle.steps.specs.Fillings.{KeepsClues, InMasks}
use Rattle.board.specs.Boards.{no_clues}
use Rattle.board.specs.declared.Board.{Board}
use Rattle.calls.specs.Demand3.{After, StepsWithoutPorted}
use Rattle.calls.specs.Replays.{Replays}
use Rattle.calls.specs.declared.ReplayError.{ReplayError}
use Rattle.trial_rounds.specs.Rounds.{round_of, Makes}

-- The clues of a round, and the solution that it was made of.
pub record KeepsSolution (clues solution : List ℤ) : Type 0 where
  -- they are clues that the board opener takes
  pub opens : Clues clues
  -- "The grid it makes always has the given solution among its correct fillings"
  pub passes : verified solution ≡ true
  pub correct : Correct solution
  pub keeps : KeepsClues clues solution
  -- "settling keeps that solution in the masks"
  pub settling : (B : Board) → After clues no_entries (step settling_call ∷ []) B → InMasks B.masks solution
  -- and so does every list of calls that demand 3's half on fillings covers, one by one or by `replay`, where the entries that it leaves are digits of the solution
  pub lists : (xs : List Deed) → without_ported (calls_in xs) ≡ true → (B : Board) → After clues no_entries xs B → KeepsClues B.entries solution → InMasks B.masks solution
  pub replayed : (ns : List ℕ) → StepsWithoutPorted ns → (r : Result Board ReplayError) → Replays clues no_entries ns r → (B : Board) × (r ≡ Ok B) × InMasks B.masks solution

pub record TrialRounds : Type 0 where
  -- every round of every solution, an array of 81 numbers
  pub made : (start percentage : ℕ) (solution : List ℤ) → length solution ≡ 81 → (clues : List ℤ) → Makes start percentage solution (Ok clues)
      → KeepsSolution clues solution
  -- 0 percent keeps no digit, and 100 percent all of them
  pub none : (start : ℕ) (solution : List ℤ) → verified solution ≡ true → round_of start 0 solution ≡ gives no_clues
  pub all : (start : ℕ) (solution : List ℤ) → length solution ≡ 81 → verified solution ≡ true → round_of start 100 solution ≡ gives solution
  -- starts that the modulus takes to the same number make the same round
  pub same : (start percentage : ℕ) (solution : List ℤ) → round_of (start + 2147483648) percentage solution ≡ round_of start percentage solution
