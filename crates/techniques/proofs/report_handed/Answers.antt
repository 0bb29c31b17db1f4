-- All that is lent to a call that the check refuses stays, but for the count of the reports; else it is what the search leaves.
use mathlib.Core.Path.{ap, ◌∙◌}
use mathlib.Core.List.{List, []}
use Prim.Native.Nat.{ℕ}
use Rattle.stops.specs.Answer.{Answer, gives, map, value_or}
use Rattle.stops.proofs.Answers.{passed-on}
use Rattle.steps.specs.Calls.{Outcome, outcome, left}
use Rattle.steps.specs.Loops.{each}
use Rattle.board.specs.Boards.{handed}
use Rattle.board.proofs.Answered.{answers}
use Rattle.techniques.specs.code.Pushes.{append, cleared}
use Rattle.techniques.specs.code.Searches.{search_call}
use Rattle.techniques.specs.declared.singles.Reports.{Reports}
use Rattle.techniques.proofs.report_handed.Goals as goal

-- the reports of an answer after those of a value
reported : Reports → Answer Outcome → Reports
reported q a = append (value_or [] (map (λ o. o.reports) a)) q

pub returns-in_err-check_given : goal.returns-in_err-check_given
unfolding reported append each
returns-in_err-check_given c =
    let a = c.args in
    let b = handed a.clues.now a.entries.now a.masks.now in
    let e = answers (search_call a.search) b c.in_err-check_given.ensures in record {
      answer_value = passed-on _ c.from_residual.ensures.1 ∙ ap (map (λ (o : Outcome). o.flag)) e;
      reports_after = c.clear.ensures ∙ ap (reported (cleared a.reports.now)) e;
      masks_after = ap (λ (o : Answer Outcome). (left b o).masks) e;
    }

pub returns : goal.returns
unfolding reported
returns c =
    let a = c.args in
    let b = handed a.clues.now a.entries.now a.masks.now in
    let x = search_call a.search in
    let q = cleared a.reports.now in
    let s = c.find_into.ensures in
    let of = ap (λ (g : List ℕ). outcome x g b.masks) c.givens_of-givens.ensures in
    let e = answers x b c.in_ok-check_given.ensures in record {
      answer_value = ap gives (s.made_value ∙ ap (λ (o : Outcome). o.flag) of) ∙ ap (map (λ (o : Outcome). o.flag)) e;
      reports_after = s.reports_after ∙ ap (append (outcome x c.givens_of-givens.result b.masks).reports) (ap cleared c.clear.ensures) ∙ ap (λ (o : Outcome). append o.reports q) of ∙ ap (reported q) e;
      masks_after = s.masks_after ∙ ap (λ (o : Outcome). o.masks) of ∙ ap (λ (o : Answer Outcome). (left b o).masks) e;
    }
