-- `techniques::box_lines::box_lines` meets its contract. The invariant: the boxes that are left still make the whole. Assumes nothing.
use mathlib.Core.Path.{◌≡◌}
use Prim.Native.Nat.{◌-◌, ◌≤◌}
use Rattle.steps.specs.Loops.{each, range}
use Rattle.steps.specs.Ported.{box_lines}
use Rattle.techniques.specs.code.BoxLines.{block_turn}
use Rattle.techniques.proofs.box_lines.box_lines.Given as goal

abbrev pub invariant-loop-block : goal.invariant-loop-block
invariant-loop-block l = (l.block ≤ 9) × (each (block_turn l.givens) (range (9 - l.block) l.block) l.masks ≡ box_lines l.givens l.initial.masks)
