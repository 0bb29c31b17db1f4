-- `record::sections::put_entries` meets its contract. Assumes nothing.
use mathlib.Core.Path.{◌≡◌}
use Prim.Native.Nat.{◌+◌, ◌*◌, ◌≤◌}
use lib.ListN.{length}
use Rattle.record.specs.Sections.{candidates, entry_bytes, stored}
use Rattle.record.proofs.Writing.{rest}
use Rattle.record.proofs.sections.put_entries.Given as goal

abbrev pub invariant-loop-cell : goal.invariant-loop-cell
invariant-loop-cell l =
    (l.cell ≤ 81) × (l.at + 2 * length (rest l.sets (9 * l.cell)) ≡ l.start + 2 * length (candidates l.sets))
    × (stored l.bytes l.at (entry_bytes (rest l.sets (9 * l.cell))) ≡ stored l.initial.bytes l.start (entry_bytes (candidates l.sets)))
