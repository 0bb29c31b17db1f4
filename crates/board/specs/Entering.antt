-- What entering a digit and rubbing it out hand back (document 02, F-6).
use Rattle.std.specs.Prelude.{◌≡◌, Result}
use Rattle.stops.specs.Answer.{answer_of, passing, value_or}
use Rattle.stops.specs.declared.Stop.{Stop}
use Rattle.steps.specs.Boards as S
use Rattle.steps.specs.Entries.{EntryCall, entry_answer}

-- what the call answers on the board, and the board that it leaves: the new one or, beside a stop, the board as it was
pub record Enters (k : EntryCall) (b : S.Board) (r : Result (Unit {0}) Stop) (after : S.Board) : Type 0 where
  pub answer : passing (answer_of r) after ≡ entry_answer k b
  pub board : after ≡ value_or b (entry_answer k b)
