-- `lone_place::lones::lone_row` meets its contract. The invariant: the cells that are left still make the whole and its log, and what they share with their peers stays near them. Assumes nothing.
use mathlib.Core.Path.{◌≡◌}
use mathlib.Core.List.{List}
use Prim.Native.Nat.{ℕ, ◌+◌, ◌*◌, ◌-◌, ◌≤◌}
use Rattle.steps.specs.Instances.{Instance}
use Rattle.steps.specs.Loops.{each, for, range}
use Rattle.steps.specs.code.Logs.{log_after}
use Rattle.lone_place.specs.code.Turns.{lone_cell, lone_row, cell_lones, row_lones}
use Rattle.lone_place.specs.code.Due.{NearRow}
use Rattle.lone_place.proofs.lones.lone_row.Given as goal

-- one turn of the loop
abbrev pub turn : List ℕ → ℕ → ℕ → List ℕ → List ℕ
turn g r k m = lone_cell g (9 * r + k) m

abbrev pub block : ℕ → ℕ → List Instance
block r k = cell_lones (9 * r + k)

abbrev pub invariant-loop-nth : goal.invariant-loop-nth
invariant-loop-nth l =
    (l.nth ≤ 9) × (each (turn l.givens l.row) (range (9 - l.nth) l.nth) l.masks ≡ lone_row l.givens l.row l.initial.masks) × NearRow l.masks l.row l.near
    × (log_after l.givens (for (range (9 - l.nth) l.nth) (block l.row)) l.masks l.log ≡ log_after l.givens (row_lones l.row) l.initial.masks l.initial.log)
