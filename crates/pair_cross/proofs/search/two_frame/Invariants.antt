-- `pair_cross::search::two_frame` meets its contract. The invariant: the lines that are left still make the whole, and the lines that are kept are those of the board. Assumes nothing.
use mathlib.Core.Path.{◌≡◌}
use mathlib.Core.List.{List}
use Prim.Native.Nat.{ℕ, ◌-◌}
use Rattle.steps.specs.Loops.{each, for, range, above}
use Rattle.steps.specs.code.Logs.{log_after}
use Rattle.pair_cross.specs.code.Twos.{lines_taken, frame_taken, line_instances, frame_instances}
use Rattle.pair_cross.specs.code.Search.{Seen}
use Rattle.pair_cross.specs.declared.twos.Frame.{Frame}
use Rattle.pair_cross.proofs.search.two_frame.Given as goal

-- one turn of the loop
abbrev pub turn : List ℕ → Frame → ℕ → List ℕ → List ℕ
turn g F i m = each (lines_taken g F i) (above i 9) m

abbrev pub invariant-loop-i : goal.invariant-loop-i
invariant-loop-i l =
    (each (turn l.givens l.frame) (range (9 - l.i) l.i) l.masks ≡ frame_taken l.givens l.frame l.initial.masks) × Seen l.givens l.masks l.frame l.doors l.held l.heat
    × (log_after l.givens (for (range (9 - l.i) l.i) (line_instances l.frame)) l.masks l.log ≡ log_after l.givens (frame_instances l.frame) l.initial.masks l.initial.log)
