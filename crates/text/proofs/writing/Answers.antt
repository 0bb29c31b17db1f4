-- `text::writing` meets its contract. Assumes nothing.
use mathlib.Core.Path.{ap, ◌∙◌}
use lib.IntN.{ℤ}
use Rattle.stops.specs.Answer.{Answer, stop, passing}
use Rattle.stops.specs.declared.Stop.TheVariants.{TooFewBytes}
use Rattle.stops.proofs.Answers.{passed-on}
use Rattle.stops.proofs.Numbers.{small}
use Rattle.text.proofs.Texts.{too_short, long-enough}
use Rattle.text.proofs.writing.Goals as goal

pub returns-then-lent-needed : goal.returns-then-lent-needed
returns-then-lent-needed c =
    let a = c.args in
    ap (λ (z : ℤ). stop (TooFewBytes z)) (small c.requires) ∙ too_short a.needed a.grid.now a.lent c.if-lent-needed.true

pub returns-in_err-check_clues : goal.returns-in_err-check_clues
returns-in_err-check_clues c =
    let a = c.args in
    passed-on _ c.from_residual.ensures.1 ∙ ap (λ (x : Answer (Unit {0})). passing x a.needed) c.in_err-check_clues.ensures
    ∙ long-enough a.needed a.grid.now a.lent c.if-lent-needed.false

pub returns : goal.returns
returns c =
    let a = c.args in
    ap (λ (x : Answer (Unit {0})). passing x a.needed) c.in_ok-check_clues.ensures ∙ long-enough a.needed a.grid.now a.lent c.if-lent-needed.false
