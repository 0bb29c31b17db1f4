-- `techniques::naked_pairs::naked_pairs` meets its contract. The invariant: the masks of two digits are those of the moment, and the units that are left still make the whole. Assumes nothing.
use mathlib.Core.Path.{◌≡◌}
use Prim.Native.Nat.{◌-◌, ◌≤◌}
use Rattle.steps.specs.Loops.{each, range}
use Rattle.steps.specs.Ported.{naked_pairs}
use Rattle.techniques.specs.code.NakedPairs.{unit_pairs, pair_masks}
use Rattle.techniques.proofs.naked_pairs.naked_pairs.Given as goal

abbrev pub invariant-loop-unit : goal.invariant-loop-unit
invariant-loop-unit l = (l.unit ≤ 27) × (l.pairs ≡ pair_masks l.givens l.masks) × (each (unit_pairs l.givens) (range (27 - l.unit) l.unit) l.masks ≡ naked_pairs l.givens l.initial.masks)
