-- `record::sections::read_entries` meets its contract. Assumes nothing.
use mathlib.Core.Path.{◌≡◌}
use Prim.Native.Nat.{◌-◌}
use Rattle.record.specs.Sections.{read_entries}
use Rattle.record.proofs.sections.read_entries.Given as goal

abbrev pub invariant-loop : goal.invariant-loop
invariant-loop l = read_entries l.section l.free l.bytes (l.count - l.counter) l.low l.at l.sets ≡ read_entries l.section l.free l.bytes l.count 0 l.start l.initial.sets
