use mathlib.Core.Path.{◌∙◌, ap}
use Prim.Native.Nat.{ℕ}
use native.Mathlib.Omega.{arith}
use Rattle.candidates.specs.Sets.{only_of, digit_or0}
use Rattle.grid.proofs.Lists.{turn-done, turns-over}
use Rattle.techniques.specs.declared.singles.Reports.{Reports}
use Rattle.techniques.proofs.SinglesFound.{naked-found, naked-none, naked-loop}
use Rattle.techniques.proofs.singles.naked_singles.Goals.{else-digit-ne0, then-digit-ne0}
use Rattle.techniques.proofs.singles.naked_singles.Invariants.{turn}
use Rattle.techniques.proofs.singles.naked_singles.Goals as goal

pub loop-cell-init : goal.loop-cell-init
loop-cell-init c = (omega arith, omega arith, naked-loop c.args.givens.now c.args.masks.now c.args.reports.now)

pub loop-cell-preserved : goal.loop-cell-preserved
loop-cell-preserved c =
    let a = c.args in
    let l = c.loop-cell in
    let digit = c.only_digit-digit.ensures ∙ ap (λ (x : ℕ). digit_or0 (only_of x)) c.open_mask.ensures in (
      omega arith,
      elim c.if-digit-ne0.branch [ then-digit-ne0 w ↦ omega (arith, ap (λ (q : Reports). q.count) w.reports-is, w.push.ensures.counted, l.invariant.1) | else-digit-ne0 w ↦ omega (arith, ap (λ (q : Reports). q.count) w.reports-is, l.invariant.1) ],
      turn-done (turn a.givens.now a.masks.now) 81 l.cell (omega arith)
          (elim c.if-digit-ne0.branch [ then-digit-ne0 w ↦ w.reports-is ∙ w.push.ensures.after ∙ naked-found a.givens.now a.masks.now l.cell (omega arith) l.reports digit w.if-digit-ne0.true | else-digit-ne0 w ↦ w.reports-is ∙ naked-none a.givens.now a.masks.now l.cell (omega arith) l.reports digit w.if-digit-ne0.false ])
          l.invariant.2,
    )

pub returns-clause-reports_after : goal.returns-clause-reports_after
returns-clause-reports_after c =
    let a = c.args in
    turns-over (turn a.givens.now a.masks.now) 81 c.loop-cell.cell c.loop-cell-test.false c.loop-cell.invariant.2
