-- `rounds::lines::score_text` meets its contract. Assumes nothing.
use mathlib.Core.Path.{◌≡◌, ap, ◌∙◌}
use mathlib.Core.List.{[]}
use Rattle.stops.proofs.Answers.{told}
use Rattle.text.specs.Texts.{parse_of}
use Rattle.output.specs.code.Tapes.{append}
use Rattle.output.specs.code.Pens.{writes}
use Rattle.rounds.specs.Rounds.{Outcome, refused, outcome_bytes}
use Rattle.rounds.specs.Summaries.{tallied}
use Rattle.rounds.specs.code.Kept.{clues_outcome, scored_from}
use Rattle.rounds.proofs.Kept.{shorter, read_is}
use Rattle.rounds.proofs.lines.score_text.Goals as goal

pub returns-in-Err : goal.returns-in-Err
unfolding tallied
returns-in-Err c =
    let a = c.args in
    let read = told c.parse_string.ensures c.in-Err.is ∙ ap parse_of (shorter a.text.now c.min-size.ensures) in
    let is : refused c.in-Err.stop ≡ scored_from a.text.now = read_is a.text.now read in (
      c.refusal_lines.ensures.0 ∙ ap (λ (o : Outcome). writes (append 256 (outcome_bytes [] o)) a.out.now) is,
      c.tally_refused.ensures ∙ ap (λ (o : Outcome). tallied o a.tally.now) is,
    )

pub returns-in-Ok : goal.returns-in-Ok
returns-in-Ok c =
    let a = c.args in
    let z = c.in-Ok.clues in
    let read = told c.parse_string.ensures c.in-Ok.is ∙ ap parse_of (shorter a.text.now c.min-size.ensures) in
    let is : clues_outcome z c.check_text.result ≡ scored_from a.text.now = ap (clues_outcome z) c.check_text.ensures ∙ read_is a.text.now read in (
      c.score_clues.ensures.0 ∙ ap (λ (o : Outcome). writes (append 256 (outcome_bytes [] o)) a.out.now) is,
      c.score_clues.ensures.1 ∙ ap (λ (o : Outcome). tallied o a.tally.now) is,
    )
