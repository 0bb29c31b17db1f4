-- `pair_cross::lively::two_same` meets its contract. The invariant: the lines that are left still make the whole. Assumes nothing.
use mathlib.Core.Path.{◌≡◌}
use mathlib.Core.List.{List}
use Prim.Native.Nat.{ℕ, ◌-◌}
use Rattle.candidates.specs.Masks.{union}
use Rattle.steps.specs.Boards.{at}
use Rattle.steps.specs.Loops.{each, range}
use Rattle.pair_cross.specs.code.Lively.{twins_above, twins}
use Rattle.pair_cross.proofs.lively.two_same.Given as goal

abbrev pub turn : List ℕ → ℕ → ℕ → ℕ
turn lines i k = union k (twins_above (at lines) i)

abbrev pub invariant-loop-line : goal.invariant-loop-line
invariant-loop-line l = each (turn l.lines) (range (8 - l.line) l.line) l.found ≡ twins (at l.lines)
