-- `techniques::x_wings::two_spots` meets its contract. The invariant: the lines that are left still make the list. Assumes nothing.
use mathlib.Core.Path.{◌≡◌}
use Prim.Native.Nat.{◌+◌}
use Rattle.grid.proofs.Fills.{filled}
use Rattle.steps.specs.Boards.{at}
use Rattle.techniques.specs.code.XWings.{lines_from, spots_where, two_spots}
use Rattle.techniques.proofs.x_wings.two_spots.Given as goal

abbrev pub invariant-loop-line : goal.invariant-loop-line
invariant-loop-line l = filled (λ i. spots_where l.givens l.masks (lines_from l.fn.lines + i) l.digit (at l.sets i)) 9 l.line l.list ≡ two_spots l.givens l.masks l.fn.lines l.digit l.sets
