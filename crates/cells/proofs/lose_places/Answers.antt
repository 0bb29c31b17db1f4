use mathlib.Core.Path.{refl, sym, ap, ◌∙◌}
use Prim.Native.Nat.{ℕ}
use native.Mathlib.Omega.{arith}
use Rattle.candidates.specs.Masks.{has}
use Rattle.candidates.proofs.Tests.{cond-true, cond-false}
use Rattle.grid.specs.Units.{unit_cell}
use Rattle.grid.proofs.Lists.{turn-done, turns-over}
use Rattle.steps.specs.Boards.{is_open}
use Rattle.steps.specs.Passes.{changed}
use Rattle.cells.specs.code.Places.{lose_in, lose_places}
use Rattle.cells.proofs.Losses.{went-none, went_on, went-cell}
use Rattle.cells.proofs.lose_places.Goals.{else-has_digit, then-has_digit}
use Rattle.cells.proofs.lose_places.Invariants.{turn}
use Rattle.cells.proofs.lose_places.Goals as goal

pub loop-place-init : goal.loop-place-init
unfolding lose_places
loop-place-init c = (omega arith, refl, went-none c.args.masks.now)

pub loop-place-preserved : goal.loop-place-preserved
loop-place-preserved c =
    let l = c.loop-place in
    let a = c.args in
    let g = a.givens.now in
    let cell = unit_cell a.unit l.place in
    let lost = lose_in (is_open g) cell a.lost l.masks in
    let tested = sym c.has_digit.ensures in
    let next = turn-done (turn g a.unit a.places a.lost) 9 l.place (omega arith) in
    elim c.if-has_digit.branch [
      | then-has_digit w ↦
          let done = w.masks-is ∙ w.lose_at-any.ensures.masks_after ∙ ap (λ (e : ℕ). lose_in (is_open g) e a.lost l.masks) w.unit_cell.ensures in (
            omega arith,
            next (done ∙ sym (cond-true (has a.places l.place) lost l.masks (tested ∙ w.if-has_digit.true))) l.invariant.1,
            rw w.any-is (went_on l.invariant.2 (went-cell (is_open g) a.lost cell done (w.lose_at-any.ensures.value ∙ ap (changed l.masks) (sym w.masks-is)))),
          )
      | else-has_digit w ↦ (
        omega arith,
        next (w.masks-is ∙ sym (cond-false (has a.places l.place) lost l.masks (tested ∙ w.if-has_digit.false))) l.invariant.1,
        rw (w.masks-is, w.any-is) l.invariant.2,
      )
    ]

pub returns : goal.returns
returns c =
    let a = c.args in
    let l = c.loop-place in record {
      masks_after = turns-over (turn a.givens.now a.unit a.places a.lost) 9 l.place c.loop-place-test.false l.invariant.1;
      value = l.invariant.2.told;
    }
