-- `techniques::x_wings::twice_sets` meets its contract. The invariant: the lines that are left still make the sets. Assumes nothing.
use mathlib.Core.Path.{◌≡◌}
use Prim.Native.Nat.{◌+◌}
use Rattle.grid.proofs.Fills.{filled}
use Rattle.cells.specs.code.Places.{unit_masks}
use Rattle.techniques.specs.code.XWings.{lines_from, twice_of, twice_sets}
use Rattle.techniques.proofs.x_wings.twice_sets.Given as goal

abbrev pub invariant-loop-line : goal.invariant-loop-line
invariant-loop-line l = filled (λ i. twice_of (unit_masks l.givens l.masks (lines_from l.fn.lines + i))) 9 l.line l.sets ≡ twice_sets l.givens l.masks l.fn.lines
