-- `cells::lose_at` meets its contract. Only an open cell of the grid that holds any of the digits is written. Assumes nothing.
use mathlib.Core.Path.{◌≡◌, sym, ap, ◌∙◌, subst}
use mathlib.Core.Bool.{true}
use Prim.Native.Nat.{ℕ}
use borrow.Author.Tests.{le-ltb, eq-eqb, ne_eqb}
use lib.Dec.{ltb}
use lib.ListN.{set}
use Rattle.candidates.specs.Masks.{minus}
use Rattle.candidates.proofs.Tests.{cond-true, cond-false}
use Rattle.steps.specs.Boards.{at, given, is_open}
use Rattle.steps.specs.Passes.{changed}
use Rattle.steps.specs.Steps.{lose_at}
use Rattle.steps.proofs.Steps.{lose-shut, lose-none}
use Rattle.cells.proofs.Losses.{told-some, told_none}
use Rattle.cells.proofs.Places.{lose-cell}
use Rattle.cells.proofs.lose_at.Goals as goal

pub returns-then-givens-cell-eq0 : goal.returns-then-givens-cell-eq0
returns-then-givens-cell-eq0 c =
    let a = c.args in
    let g = a.givens.now in
    let m = a.masks.now in
    let e = c.lose.ensures in record {
      masks_after = ap (set m a.cell) e
          ∙ sym (cond-true (is_open g a.cell) (set m a.cell (minus (at m a.cell) a.lost)) m (eq-eqb (given g a.cell) 0 c.if-givens-cell-eq0.true))
          ∙ sym (lose-cell (is_open g) a.cell a.lost m c.if-cell-lt81.true);
      value = subst (λ (x : ℕ). true ≡ changed m (set m a.cell x)) (sym e) (told-some a.cell a.lost m (λ z. c.if-meet-ne0.true (c.meet.ensures ∙ z)));
    }

pub returns-else-givens-cell-eq0 : goal.returns-else-givens-cell-eq0
returns-else-givens-cell-eq0 c =
    let a = c.args in
    let g = a.givens.now in
    let m = a.masks.now in record {
      masks_after = sym (lose-shut (is_open g) a.cell a.lost m (ne_eqb (given g a.cell) 0 c.if-givens-cell-eq0.false)) ∙ sym (lose-cell (is_open g) a.cell a.lost m c.if-cell-lt81.true);
      value = told_none m;
    }

pub returns-else-meet-ne0 : goal.returns-else-meet-ne0
returns-else-meet-ne0 c =
    let a = c.args in
    let g = a.givens.now in
    let m = a.masks.now in record {
      masks_after = sym (lose-none (is_open g) a.cell a.lost m (λ _. sym c.meet.ensures ∙ c.if-meet-ne0.false)) ∙ sym (lose-cell (is_open g) a.cell a.lost m c.if-cell-lt81.true);
      value = told_none m;
    }

pub returns-else-cell-lt81 : goal.returns-else-cell-lt81
returns-else-cell-lt81 c =
    let a = c.args in
    let m = a.masks.now in record {
      masks_after = sym (cond-false (ltb a.cell 81) (lose_at (is_open a.givens.now) a.cell a.lost m) m (le-ltb a.cell 81 c.if-cell-lt81.false));
      value = told_none m;
    }
