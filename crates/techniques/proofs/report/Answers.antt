-- The lent board and the lent reports as values.
use mathlib.Core.Path.{ap, ◌∙◌}
use mathlib.Core.List.{[]}
use Rattle.stops.specs.Answer.{gives, map, value_or}
use Rattle.steps.specs.Boards.{with_masks}
use Rattle.steps.specs.Calls.{Outcome, answer}
use Rattle.board.specs.Boards.{board_of}
use Rattle.techniques.specs.Reports.{reports_of}
use Rattle.techniques.specs.code.Pushes.{append, cleared}
use Rattle.techniques.specs.code.Searches.{search_call}
use Rattle.techniques.specs.declared.singles.Reports.{Reports}
use Rattle.techniques.proofs.Left.{given_list, masks-left}
use Rattle.techniques.proofs.ReportLists.{answered-few, stands}
use Rattle.techniques.proofs.report.Goals as goal

pub returns : goal.returns
unfolding reports_of
returns c =
    let a = c.args in
    let b = board_of a.board.now in
    let k = search_call a.search in
    let list = value_or [] (map (λ (o : Outcome). o.reports) (answer k b)) in
    let s = c.in_ok-made.ensures in
    record {
      flag = s.answer_value;
      board = ap (with_masks b) s.masks_after ∙ masks-left b (answer k b);
      reports =
          ap gives (s.reports_after ∙ ap (λ (q : Reports). append list (cleared q)) c.new-reports.ensures ∙ stands list (answered-few a.search b))
          ∙ given_list (answer k b) s.answer_value;
    }
