-- `pair_cross::lively::any_hot` meets its contract. The invariant: the lines that are left still make the whole. Assumes nothing.
use mathlib.Core.Path.{◌≡◌}
use mathlib.Core.Bool.{cond}
use mathlib.Core.List.{List}
use Prim.Native.Nat.{ℕ, ◌-◌}
use Rattle.candidates.specs.Masks.{union}
use Rattle.steps.specs.Boards.{at}
use Rattle.steps.specs.Loops.{each, range}
use Rattle.pair_cross.specs.code.Lively.{hot, any_hot}
use Rattle.pair_cross.proofs.lively.any_hot.Given as goal

abbrev pub turn : List ℕ → ℕ → ℕ → ℕ → ℕ
turn nine twice i k = union k (cond (hot (at nine i) twice) 511 0)

abbrev pub invariant-loop-held : goal.invariant-loop-held
invariant-loop-held l = each (turn l.nine l.twice) (range (9 - l.held-index) l.held-index) l.any ≡ any_hot (at l.nine) l.twice
