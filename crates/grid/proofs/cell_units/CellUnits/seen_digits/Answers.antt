-- `grid::cell_units::CellUnits::seen_digits` meets its contract. Assumes nothing.
use mathlib.Core.Path.{ap, ◌∙◌}
use Prim.Native.Nat.{ℕ}
use lib.ListN.{get_or}
use Rattle.candidates.specs.Masks.{union}
use Rattle.grid.proofs.Marks.{seen-three}
use Rattle.grid.proofs.cell_units.CellUnits.seen_digits.Goals as goal

pub returns : goal.returns
returns c =
    let a = c.args in
    let s = a.self in
    c.join.ensures ∙ ap (λ (m : ℕ). union m (get_or a.marks.now s.block 0)) c.join-lines.ensures
    ∙ seen-three s.row s.col s.block s.of_one_cell.1 s.of_one_cell.2 a.marks.now
