-- `board::entries::check_entries` meets its contract. Assumes nothing.
use mathlib.Core.Path.{◌≡◌}
use Prim.Native.Nat.{◌-◌}
use lib.IntN.{pos}
use lib.ListN.{get_or}
use Rattle.grid.specs.Lists.{range}
use Rattle.steps.specs.Calls.{bad_entry, first_bad_entry}
use Rattle.steps.specs.Loops.{first}
use Rattle.board.proofs.entries.check_entries.Given as goal

abbrev pub invariant-loop-cell : goal.invariant-loop-cell
invariant-loop-cell l = first (λ c. bad_entry (get_or l.clues c (pos 0)) (get_or l.entries c (pos 0))) (range (81 - l.cell) l.cell) ≡ first_bad_entry l.clues l.entries
