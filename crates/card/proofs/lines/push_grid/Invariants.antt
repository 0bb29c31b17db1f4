-- `card::lines::push_grid` meets its contract. The invariant: the cells that are left still make the whole grid. Assumes nothing.
use mathlib.Core.Path.{◌≡◌}
use mathlib.Core.List.{List, [], ◌∷◌}
use Prim.Native.Nat.{ℕ, ◌-◌}
use Rattle.steps.specs.Boards.{at}
use Rattle.steps.specs.Loops.{each, range}
use Rattle.output.specs.declared.Pen.{Pen}
use Rattle.output.specs.code.Tapes.{append}
use Rattle.output.specs.code.Pens.{writes}
use Rattle.card.specs.Layout.{cell_byte, grid_bytes}
use Rattle.card.proofs.lines.push_grid.Given as goal

-- one turn of the loop
abbrev pub turn : List ℕ → ℕ → Pen 256 → Pen 256
turn m c p = writes (append 256 (cell_byte (at m c) ∷ [])) p

abbrev pub invariant-loop-mask : goal.invariant-loop-mask
invariant-loop-mask l = each (turn l.masks) (range (81 - l.mask-index) l.mask-index) l.lines ≡ writes (append 256 (grid_bytes l.masks)) l.initial.lines
