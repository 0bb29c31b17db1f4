-- `rounds::fields::write_score` meets its contract. Assumes nothing.
use mathlib.Core.List.{[], ◌∷◌, ◌++◌}
use Rattle.output.specs.Decimals.{decimal}
use Rattle.output.proofs.Pens.{writes-joined}
use Rattle.stops.specs.Answer.{answer_of, map}
use Rattle.difficulty.specs.Ratings.{figure_in}
use Rattle.card.specs.Cards.{verdict_word}
use Rattle.rounds.specs.Rounds.{field, figure_bytes, check_bytes, score_bytes}
use Rattle.rounds.proofs.fields.write_score.Goals as goal

pub returns : goal.returns
unfolding score_bytes field
returns c =
    let card = c.args.card.now in
    let p = c.args.line.now in
    let b = field (decimal card.clues) in
    let d = field (decimal card.reported) in
    let e = field (decimal card.sweeps) in
    let f = field (decimal card.removed) in
    let v = verdict_word card.verdict in
    let g = figure_bytes (map figure_in (answer_of c.args.rating)) in
    let k = check_bytes c.args.check in
    let four = writes-joined (b ++ d ++ e) f p (writes-joined (b ++ d) e p (writes-joined b d p c.push_field.ensures c.push_field-2.ensures) c.push_field-3.ensures) c.push_field-4.ensures in
    let five = writes-joined (b ++ d ++ e ++ f) (field v) p four (writes-joined v (32 ∷ []) _ c.push_verdict.ensures c.push.ensures) in
    let six = writes-joined (b ++ d ++ e ++ f ++ field v) (field g) p five (writes-joined g (32 ∷ []) _ c.push_rating.ensures c.push-2.ensures) in
    writes-joined (b ++ d ++ e ++ f ++ field v ++ field g ++ k) (10 ∷ []) p (writes-joined (b ++ d ++ e ++ f ++ field v ++ field g) k p six c.push_check.ensures) c.push-3.ensures
