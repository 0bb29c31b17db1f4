-- `techniques::x_wings::wings_from` meets its contract. The invariant: the second lines that are left still make the whole. Assumes nothing.
use mathlib.Core.Path.{◌≡◌}
use mathlib.Core.List.{List}
use Prim.Native.Nat.{ℕ, ◌-◌, ◌≤◌}
use Rattle.steps.specs.Boards.{at}
use Rattle.steps.specs.Loops.{each, range}
use Rattle.techniques.specs.declared.x_wings.Lines.{Lines}
use Rattle.techniques.specs.code.XWings.{wing_at, wings_from}
use Rattle.techniques.proofs.x_wings.wings_from.Given as goal

-- one turn of the loop
abbrev pub turn : List ℕ → Lines → ℕ → List ℕ → ℕ → ℕ → List ℕ → List ℕ
turn g lines d list i j m = wing_at g lines d i j (at list i) (at list j) m

abbrev pub invariant-loop-second : goal.invariant-loop-second
invariant-loop-second l = (l.second ≤ 9) × (each (turn l.givens l.lines l.digit l.list l.first) (range (9 - l.second) l.second) l.masks ≡ wings_from l.givens l.lines l.digit l.list l.first l.initial.masks)
