-- What a call that reports hands back.
use Rattle.std.specs.Prelude.{◌≡◌, Result}
use Rattle.stops.specs.Answer.{answer_of, map}
use Rattle.stops.specs.declared.Stop.{Stop}
use Rattle.steps.specs.Boards as S
use Rattle.steps.specs.Calls.{Call, answer, left}
use Rattle.techniques.specs.Reports.{reports_of}
use Rattle.techniques.specs.declared.Reported.{Reported}

-- what the call answers on the board: its stop, or its progress and its reports; and the board as it leaves it
pub record Finds (k : Call) (b : S.Board) (r : Result Reported Stop) (after : S.Board) : Type 0 where
  pub flag : map (λ x. x.made) (answer_of r) ≡ map (λ o. o.flag) (answer k b)
  pub board : after ≡ left b (answer k b)
  pub reports : map (λ x. x.reports) (answer_of r) ≡ map (λ o. reports_of o.reports) (answer k b)
