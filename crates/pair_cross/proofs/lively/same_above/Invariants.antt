-- `pair_cross::lively::same_above` meets its contract. The invariant: the lines that are left still make the whole. Assumes nothing.
use mathlib.Core.Path.{◌≡◌}
use mathlib.Core.List.{List}
use Prim.Native.Nat.{ℕ, ◌-◌}
use Rattle.candidates.specs.Masks.{union}
use Rattle.steps.specs.Boards.{at}
use Rattle.steps.specs.Loops.{each, range}
use Rattle.pair_cross.specs.code.Lively.{pick, twin, twins_above}
use Rattle.pair_cross.proofs.lively.same_above.Given as goal

abbrev pub turn : List ℕ → ℕ → ℕ → ℕ → ℕ
turn lines i j k = union k (twin (pick (at lines i)) (at lines j))

abbrev pub invariant-loop-other : goal.invariant-loop-other
invariant-loop-other l = each (turn l.lines l.line) (range (9 - l.other) l.other) l.found ≡ twins_above (at l.lines) l.line
