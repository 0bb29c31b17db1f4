-- `pair_cross::search::open_held` meets its contract. The invariant: the lines that are left still make the whole. Assumes nothing.
use mathlib.Core.Path.{◌≡◌}
use mathlib.Core.List.{List}
use Prim.Native.Nat.{ℕ, ◌-◌}
use lib.Bits.{bit_and}
use Rattle.candidates.specs.Masks.{union}
use Rattle.steps.specs.Boards.{at}
use Rattle.steps.specs.Loops.{each, range}
use Rattle.pair_cross.specs.code.Search.{open_held}
use Rattle.pair_cross.proofs.search.open_held.Given as goal

abbrev pub turn : List ℕ → List ℕ → ℕ → ℕ → ℕ
turn held doors l k = union k (bit_and (at held l) (at doors l))

abbrev pub invariant-loop-line : goal.invariant-loop-line
invariant-loop-line l = each (turn l.held l.doors) (range (9 - l.line) l.line) l.found ≡ open_held l.held l.doors
