-- `board::entries::any_bad_entry` meets its contract. Assumes nothing.
use mathlib.Core.Path.{◌≡◌}
use mathlib.Core.Bool.{◌||◌}
use Prim.Native.Nat.{◌-◌}
use lib.IntN.{pos}
use lib.ListN.{get_or}
use Rattle.grid.specs.Lists.{range}
use Rattle.steps.specs.Calls.{bad_entry, first_bad_entry}
use Rattle.steps.specs.Loops.{first}
use Rattle.board.specs.code.Checks.{is_found}
use Rattle.board.proofs.entries.any_bad_entry.Given as goal

abbrev pub invariant-loop-cell : goal.invariant-loop-cell
invariant-loop-cell l = (l.any || is_found (first (λ c. bad_entry (get_or l.clues c (pos 0)) (get_or l.entries c (pos 0))) (range (81 - l.cell) l.cell))) ≡ is_found (first_bad_entry l.clues l.entries)
