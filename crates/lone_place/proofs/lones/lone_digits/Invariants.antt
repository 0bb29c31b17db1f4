-- `lone_place::lones::lone_digits` meets its contract. The invariant: the digits that are left still make the whole and its log, masks have only shrunk, and the cell is as it was. Assumes nothing.
use mathlib.Core.Path.{◌≡◌}
use mathlib.Core.List.{List, [], ◌∷◌}
use Prim.Native.Nat.{ℕ, ◌-◌, ◌≤◌}
use Rattle.steps.specs.Boards.{at, Under}
use Rattle.steps.specs.Instances.{Instance, lone}
use Rattle.steps.specs.Loops.{each, for, range}
use Rattle.steps.specs.Passes.{instance_taken}
use Rattle.steps.specs.code.Logs.{log_after}
use Rattle.lone_place.specs.code.Turns.{lone_cell, cell_lones}
use Rattle.lone_place.proofs.lones.lone_digits.Given as goal

-- one turn of the loop
abbrev pub turn : List ℕ → ℕ → ℕ → List ℕ → List ℕ
turn g c d m = instance_taken g (lone c d) m

-- the instance of a turn
abbrev pub step : ℕ → ℕ → List Instance
step c d = lone c d ∷ []

pub record Shrunk (c : ℕ) (m n : List ℕ) : Type 0 where
  pub under : Under n m
  pub own : at n c ≡ at m c

abbrev pub invariant-loop-digit : goal.invariant-loop-digit
invariant-loop-digit l =
    (l.digit ≤ 9) × (each (turn l.givens l.cell) (range (9 - l.digit) l.digit) l.masks ≡ lone_cell l.givens l.cell l.initial.masks) × Shrunk l.cell l.initial.masks l.masks
    × (log_after l.givens (for (range (9 - l.digit) l.digit) (step l.cell)) l.masks l.log ≡ log_after l.givens (cell_lones l.cell) l.initial.masks l.initial.log)
