-- `cells::changed` meets its contract. The invariant: the flag is up, or the cells that are left differ, exactly where the masks do. Assumes nothing.
use mathlib.Core.Path.{◌≡◌}
use mathlib.Core.Bool.{not, ◌||◌}
use Prim.Native.Nat.{◌≤◌}
use lib.ListN.{length, drop}
use Rattle.steps.specs.Boards.{same_masks}
use Rattle.cells.proofs.changed.Given as goal

abbrev pub invariant-loop-cell : goal.invariant-loop-cell
invariant-loop-cell l = (length l.before ≡ 81) × (length l.after ≡ 81) × (l.cell ≤ 81) × ((l.any || not (same_masks (drop l.cell l.before) (drop l.cell l.after))) ≡ not (same_masks l.before l.after))
