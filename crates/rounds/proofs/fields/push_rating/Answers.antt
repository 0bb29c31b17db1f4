-- `rounds::fields::push_rating` meets its contract. Assumes nothing.
use mathlib.Core.Path.{sym, ap, ◌∙◌}
use Rattle.output.specs.code.Tapes.{append}
use Rattle.output.specs.code.Pens.{writes}
use Rattle.difficulty.specs.Ratings.{figure_in}
use Rattle.difficulty.specs.declared.Figure.{Figure}
use Rattle.std.specs.Prelude.{Result}
use Rattle.stops.specs.Answer.{answer_of, map}
use Rattle.stops.specs.declared.Stop.{Stop}
use Rattle.rounds.specs.Rounds.{figure_bytes}
use Rattle.rounds.proofs.fields.push_rating.Goals as goal

pub returns-in-Err : goal.returns-in-Err
unfolding figure_bytes
returns-in-Err c = c.push_word.ensures ∙ sym (ap (λ (k : Result Figure Stop). writes (append 256 (figure_bytes (map figure_in (answer_of k)))) c.args.line.now) c.in-Err.is)
