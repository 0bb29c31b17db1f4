-- `pair_cross::search::line_turns` meets its contract. The invariant: the lines that are left still make the whole, and the lines that are kept are those of the board. Assumes nothing.
use mathlib.Core.Path.{◌≡◌}
use Prim.Native.Nat.{◌-◌}
use Rattle.steps.specs.Loops.{each, for, range, above}
use Rattle.steps.specs.code.Logs.{log_after}
use Rattle.pair_cross.specs.code.Twos.{lines_taken, lines_instances, line_instances}
use Rattle.pair_cross.specs.code.Search.{Seen}
use Rattle.pair_cross.proofs.search.line_turns.Given as goal

abbrev pub invariant-loop-j : goal.invariant-loop-j
invariant-loop-j l =
    (each (lines_taken l.givens l.frame l.i) (range (9 - l.j) l.j) l.masks ≡ each (lines_taken l.givens l.frame l.i) (above l.i 9) l.initial.masks) × Seen l.givens l.masks l.frame l.doors l.held l.heat
    × (log_after l.givens (for (range (9 - l.j) l.j) (lines_instances l.frame l.i)) l.masks l.log ≡ log_after l.givens (line_instances l.frame l.i) l.initial.masks l.initial.log)
