-- `record::sections::put_cell` meets its contract. Assumes nothing.
use mathlib.Core.Path.{◌≡◌}
use Prim.Native.Nat.{◌+◌, ◌*◌, ◌<◌}
use lib.ListN.{length}
use Rattle.record.specs.code.Places.{cell_candidates}
use Rattle.record.specs.Sections.{entry_bytes, stored}
use Rattle.record.proofs.sections.put_cell.Given as goal

abbrev pub invariant-loop-left : goal.invariant-loop-left
invariant-loop-left l =
    (l.left < 512) × (l.at + 2 * length (cell_candidates l.cell l.left) ≡ l.start + 2 * length (cell_candidates l.cell l.set))
    × (stored l.bytes l.at (entry_bytes (cell_candidates l.cell l.left)) ≡ stored l.initial.bytes l.start (entry_bytes (cell_candidates l.cell l.set)))

abbrev pub decreases-loop-left : goal.decreases-loop-left
decreases-loop-left l = length (cell_candidates l.cell l.left)
