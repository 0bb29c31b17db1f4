-- `rounds::lines::score_clues` meets its contract. Assumes nothing.
use mathlib.Core.Path.{◌≡◌, sym, ap, ap₂, subst, ◌∙◌}
use mathlib.Core.List.{List}
use Prim.Native.Nat.{ℕ, ◌≤◌}
use Rattle.stops.specs.Answer.{Answer, answer_of, map}
use Rattle.steps.specs.Boards.{givens_of}
use Rattle.steps.specs.Difficulty.{Figure, summed}
use Rattle.steps.proofs.Check.{clues-givens}
use Rattle.difficulty.specs.Ratings.{figure_in}
use Rattle.difficulty.specs.code.Rates.{rating_by, rate_of}
use Rattle.difficulty.proofs.Figures.{counts-few}
use Rattle.output.specs.code.Tapes.{append}
use Rattle.output.specs.code.Pens.{writes}
use Rattle.card.specs.declared.layout.Card.{Card}
use Rattle.rounds.specs.Rounds.{score_bytes}
use Rattle.rounds.specs.Summaries.{raised, verdict_place, check_tallied, tallied}
use Rattle.rounds.proofs.lines.score_clues.Goals as goal

pub rating_of-rating-requires : goal.rating_of-rating-requires
rating_of-rating-requires c =
    let z = c.args.clues.now in
    subst (λ (l : List ℕ). summed l ≤ 729) (sym c.score-card.ensures.1) (counts-few (givens_of z) (clues-givens z))

pub returns : goal.returns
unfolding tallied
returns c =
    let a = c.args in
    let z = a.clues.now in
    let rated : map figure_in (answer_of c.rating_of-rating.result) ≡ rate_of (givens_of z) = c.rating_of-rating.ensures ∙ ap₂ rating_by c.givens_of-givens.ensures c.score-card.ensures.1 in (
      c.write_score.ensures
          ∙ ap₂ (λ (k : Card) (f : Answer Figure). writes (append 256 (score_bytes k f a.check)) a.out.now) c.score-card.ensures.0 rated,
      c.tally_grid.ensures ∙ ap (λ (k : Card). check_tallied a.check (raised (verdict_place k.verdict) (raised 0 a.tally.now))) c.score-card.ensures.0,
    )
