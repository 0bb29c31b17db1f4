use mathlib.Core.Path.{◌≡◌, refl, sym, ap, ◌∙◌}
use mathlib.Core.List.{List}
use Prim.Native.Nat.{ℕ}
use native.Mathlib.Omega.{arith}
use lib.Dec.{eqb}
use Rattle.candidates.specs.Masks.{has, count, lowest}
use Rattle.grid.specs.Units.{unit_cell}
use Rattle.grid.proofs.Units.{cell-small}
use Rattle.grid.proofs.Lists.{turn-done, turns-over}
use Rattle.steps.specs.Loops.{each, up_to}
use Rattle.cells.specs.code.Places.{spots_in}
use Rattle.techniques.specs.declared.singles.Reports.{Reports}
use Rattle.techniques.proofs.HeldOnce.{once_is}
use Rattle.techniques.proofs.SinglesFound.{hidden_found, hidden-none, hidden-loop}
use Rattle.techniques.proofs.singles.hidden_in.Goals.{else-has_digit, then-has_digit}
use Rattle.techniques.proofs.singles.hidden_in.Invariants.{turn}
use Rattle.techniques.proofs.singles.hidden_in.Goals as goal

pub loop-digit-init : goal.loop-digit-init
loop-digit-init c =
    let a = c.args in
    let q = a.reports.now in
    (omega arith, omega arith, ap (λ (nine : List ℕ). each (turn a.unit nine) (up_to 9) q) c.unit_masks-nine.ensures ∙ hidden-loop a.givens.now a.masks.now a.unit q)

pub overflow_cast-cell : goal.overflow_cast-cell
overflow_cast-cell c =
    omega (arith, c.unit_cell-cell.ensures, cell-small c.args.unit c.lowest_digit-place.result)

pub loop-digit-preserved : goal.loop-digit-preserved
loop-digit-preserved c =
    let l = c.loop-digit in
    let u = c.args.unit in
    let d = l.digit in
    let nine = c.unit_masks-nine.result in
    let test : eqb (count (spots_in nine d)) 1 ≡ c.has_digit.result =
    sym (c.has_digit.ensures ∙ ap (λ (x : ℕ). has x d) c.held_once-once.ensures ∙ once_is nine d) in (
      omega arith,
      elim c.if-has_digit.branch [ then-has_digit w ↦ omega (arith, ap (λ (q : Reports). q.count) w.reports-is, w.push.ensures.counted, l.invariant.1) | else-has_digit w ↦ omega (arith, ap (λ (q : Reports). q.count) w.reports-is, l.invariant.1) ],
      turn-done (turn u nine) 9 d (omega arith)
          (elim c.if-has_digit.branch [
            | then-has_digit w ↦ w.reports-is ∙ w.push.ensures.after
                ∙ hidden_found u d l.reports (spots_in nine d) (w.unit_cell-cell.ensures ∙ ap (unit_cell u) (w.lowest_digit-place.ensures ∙ ap lowest w.places_of.ensures)) refl (test ∙ w.if-has_digit.true)
            | else-has_digit w ↦ w.reports-is ∙ hidden-none u d l.reports (spots_in nine d) (test ∙ w.if-has_digit.false)
          ])
          l.invariant.2,
    )

pub returns-clause-reports_after : goal.returns-clause-reports_after
returns-clause-reports_after c =
    turns-over (turn c.args.unit c.unit_masks-nine.result) 9 c.loop-digit.digit c.loop-digit-test.false c.loop-digit.invariant.2
