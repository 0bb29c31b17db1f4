-- Beyond the demands: on which boards a verdict says what it says (board/specs/Verdicts). proofs/Verdicts.antt shows it.
use Rattle.std.specs.Prelude.{◌≡◌, true, List, ℕ, ℤ, Result, Ok}
use Rattle.steps.specs.Calls.{Clues, Entries, without_ported}
use Rattle.steps.specs.Entries.{Deed, calls_in}
use Rattle.steps.specs.Fillings.{Keeps}
use Rattle.board.specs.Boards.{board_of}
use Rattle.board.specs.Verdicts.{VerdictSays}
use Rattle.board.specs.declared.Board.{Board}
use Rattle.calls.specs.Demand3.{After, StepsWithoutPorted}
use Rattle.calls.specs.Replays.{Replays}
use Rattle.calls.specs.declared.ReplayError.{ReplayError}

-- After any list without the ported chain pass: a finished board has the puzzle's one solution, and where a board is dead the puzzle has none. Of the puzzle are the clues, and the entries then on the board.
pub record VerdictMeans : Type 0 where
  pub lists : (clues entries : List ℤ) → Clues clues → Entries clues entries → (xs : List Deed) → without_ported (calls_in xs) ≡ true → (B : Board) → After clues entries xs B → VerdictSays (Keeps (board_of B)) B.masks
  pub replayed : (clues entries : List ℤ) → Clues clues → Entries clues entries → (ns : List ℕ) → StepsWithoutPorted ns → (r : Result Board ReplayError) → Replays clues entries ns r
      → (B : Board) × (r ≡ Ok B) × VerdictSays (Keeps (board_of B)) B.masks
