-- What the calls of this crate hand back.
use Rattle.std.specs.Prelude.{◌≡◌, Bool, Result}
use Rattle.stops.specs.Answer.{answer_of, map}
use Rattle.stops.specs.declared.Stop.{Stop}
use Rattle.steps.specs.Boards.{Board}
use Rattle.steps.specs.Calls.{Call, answer, left}

-- what the call answers on the board b: its progress or its stop, and the board c that it leaves
pub record Eliminates (k : Call) (b : Board) (r : Result Bool Stop) (c : Board) : Type 0 where
  pub flag : answer_of r ≡ map (λ o. o.flag) (answer k b)
  pub board : c ≡ left b (answer k b)
