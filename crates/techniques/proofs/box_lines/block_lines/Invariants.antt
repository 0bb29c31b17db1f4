-- `techniques::box_lines::block_lines` meets its contract. The invariant: the lines that are left still make the whole. Assumes nothing.
use mathlib.Core.Path.{◌≡◌}
use Prim.Native.Nat.{◌-◌, ◌≤◌}
use Rattle.steps.specs.Loops.{each, range}
use Rattle.techniques.specs.code.BoxLines.{line_turn, block_lines}
use Rattle.techniques.proofs.box_lines.block_lines.Given as goal

abbrev pub invariant-loop-nth : goal.invariant-loop-nth
invariant-loop-nth l = (l.nth ≤ 6) × (each (line_turn l.givens l.unit l.nine) (range (6 - l.nth) l.nth) l.masks ≡ block_lines l.givens l.unit l.nine l.initial.masks)
