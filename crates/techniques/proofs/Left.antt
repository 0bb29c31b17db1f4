-- A call changes the masks of its board alone, and has its reports where it is not refused. Assumes nothing.
use mathlib.Core.Path.{◌≡◌, refl, sym}
use mathlib.Core.Bool.{Bool}
use mathlib.Core.List.{[]}
use Rattle.stops.specs.Answer.{Answer, gives, stop, map, value_or}
use Rattle.stops.proofs.Answers.{stop-gives}
use Rattle.steps.specs.Boards.{Board, with_masks}
use Rattle.steps.specs.Calls.{Outcome, left}
use Rattle.techniques.specs.Reports.{reports_of}

pub masks-left : (b : Board) (a : Answer Outcome) → with_masks b (left b a).masks ≡ left b a
masks-left b (gives o) = refl
masks-left b (stop s) = refl

-- the reports of a call that was not refused
pub given_list : (a : Answer Outcome) {t : Bool} → gives t ≡ map (λ o. o.flag) a → gives (reports_of (value_or [] (map (λ o. o.reports) a))) ≡ map (λ o. reports_of o.reports) a
given_list (gives o) e = refl
given_list (stop s) e = absurd (stop-gives (sym e))
