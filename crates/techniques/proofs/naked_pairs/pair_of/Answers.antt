-- `techniques::naked_pairs::pair_of` meets its contract. Assumes nothing.
use mathlib.Core.Path.{sym, ◌∙◌}
use lib.Dec.{eqb}
use Rattle.candidates.specs.Masks.{count}
use Rattle.candidates.proofs.Tests.{cond-true, cond-false}
use Rattle.steps.specs.Boards.{at}
use Rattle.techniques.specs.code.NakedPairs.{twin_of, pair_of}
use Rattle.techniques.proofs.naked_pairs.pair_of.Goals as goal

pub returns-then-is_two-clause-found : goal.returns-then-is_two-clause-found
unfolding pair_of
returns-then-is_two-clause-found c =
    let a = c.args in
    c.twin_of.ensures.found ∙ sym (cond-true (eqb (count (at a.nine.now a.first)) 2) (twin_of a.nine.now a.first) 9 (sym c.is_two.ensures ∙ c.if-is_two.true))

pub returns-clause-found : goal.returns-clause-found
unfolding pair_of
returns-clause-found c =
    let a = c.args in
    sym (cond-false (eqb (count (at a.nine.now a.first)) 2) (twin_of a.nine.now a.first) 9 (sym c.is_two.ensures ∙ c.if-is_two.false))
