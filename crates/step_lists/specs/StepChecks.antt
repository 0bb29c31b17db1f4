-- What the checker of step lists hands back (document 02, F-10).
use Rattle.std.specs.Prelude.{◌≡◌, List, ℕ, Result}
use Rattle.stops.specs.Answer.{passing, value_or, answer_of}
use Rattle.stops.specs.declared.Stop.{Stop}
use Rattle.steps.specs.Boards as S
use Rattle.steps.specs.StepLists.{check_steps_of}

-- its stop, or "the final board comes back with it" in place of the handed one; beside a stop the handed board as it was
pub record ChecksSteps (b : S.Board) (bs : List ℕ) (r : Result (Unit {0}) Stop) (after : S.Board) : Type 0 where
  pub answer : passing (answer_of r) after ≡ check_steps_of b bs
  pub board : after ≡ value_or b (check_steps_of b bs)
