-- `lone_place::lones::lone_rows` meets its contract. The invariant: the rows that are left still make the pass and its log, the sets cover the masks, and these are as they were if no row was due. Assumes nothing.
use mathlib.Core.Path.{◌≡◌}
use Prim.Native.Nat.{◌-◌, ◌≤◌}
use Rattle.steps.specs.Loops.{each, for, range}
use Rattle.steps.specs.Passes.{instances, pass, Lone}
use Rattle.steps.specs.code.Logs.{log_after}
use Rattle.lone_place.specs.code.Turns.{lone_row, row_lones}
use Rattle.lone_place.specs.code.Due.{Covers, Kept}
use Rattle.lone_place.proofs.lones.lone_rows.Given as goal

abbrev pub invariant-loop-row : goal.invariant-loop-row
invariant-loop-row l =
    (l.row ≤ 9) × (each (lone_row l.givens) (range (9 - l.row) l.row) l.masks ≡ pass l.givens Lone l.initial.masks) × Covers l.sets l.masks × Kept l.any l.initial.masks l.masks
    × (log_after l.givens (for (range (9 - l.row) l.row) row_lones) l.masks l.log ≡ log_after l.givens (instances Lone) l.initial.masks l.initial.log)
