use mathlib.Core.Path.{sym, ap, ◌∙◌}
use native.Mathlib.Omega.{arith}
use borrow.Author.Tests.{eq-eqb, ne_eqb}
use Rattle.grid.specs.Cells.{cells}
use Rattle.grid.proofs.Lists.{all-on}
use Rattle.rounds.specs.Answers.{is_numeral, is_full}
use Rattle.rounds.proofs.answers.is_full.Goals as goal

pub returns-then-answer-ne81 : goal.returns-then-answer-ne81
unfolding is_full
returns-then-answer-ne81 c = rw (ne_eqb _ 81 c.if-answer-ne81.true)

pub loop-cell-init : goal.loop-cell-init
unfolding is_full cells
loop-cell-init c = rw (eq-eqb _ 81 c.if-answer-ne81.false)

pub loop-cell-preserved : goal.loop-cell-preserved
loop-cell-preserved c =
    let l = c.loop-cell in
    sym (all-on _ 81 l.cell (omega arith) (sym (c.is_numeral.ensures ∙ ap is_numeral c.byte_at.ensures) ∙ c.if-not-is_numeral.false)) ∙ l.invariant
