-- `techniques::box_lines::lose_line` meets its contract. Assumes nothing.
use mathlib.Core.Path.{◌≡◌, sym, ap, ◌∙◌}
use Prim.Native.Nat.{ℕ}
use borrow.Author.Tests.{eqb-true}
use Rattle.candidates.proofs.Counts.{test-none}
use Rattle.steps.specs.Boards.{is_open}
use Rattle.cells.specs.code.Meets.{outside, met_unit}
use Rattle.cells.specs.code.Places.{lose_places}
use Rattle.techniques.proofs.BoxLines.{lose-nothing}
use Rattle.techniques.proofs.box_lines.lose_line.Goals as goal

pub returns-then-is_none : goal.returns-then-is_none
returns-then-is_none c =
    let a = c.args in
    let none : a.lost ≡ 0 = eqb-true a.lost 0 (test-none a.lost ∙ sym c.is_none.ensures ∙ c.if-is_none.true) in
    sym (ap (λ (x : ℕ). lose_places (is_open a.givens.now) (met_unit a.unit a.nth) (outside a.unit a.nth) x a.masks.now) none
    ∙ lose-nothing (is_open a.givens.now) (met_unit a.unit a.nth) (outside a.unit a.nth) a.masks.now)
