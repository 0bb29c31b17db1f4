-- `grid::cell_units::CellUnits::join` meets its contract. Assumes nothing.
use mathlib.Core.Path.{ap, ◌∙◌}
use Prim.Native.Nat.{◌+◌}
use Rattle.grid.specs.Marks.{join_at}
use Rattle.grid.proofs.Marks.{joined-three}
use Rattle.grid.proofs.cell_units.CellUnits.join.Goals as goal

pub returns : goal.returns
returns c =
    let a = c.args in
    let s = a.self in
    c.join_at-3.ensures
    ∙ ap (join_at s.block a.mask) (c.join_at-2.ensures ∙ ap (join_at (9 + s.col) a.mask) c.join_at.ensures)
    ∙ joined-three s.row s.col s.block s.of_one_cell.1 s.of_one_cell.2 a.mask a.marks.now
