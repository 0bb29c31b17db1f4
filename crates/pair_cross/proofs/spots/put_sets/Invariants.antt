-- `pair_cross::spots::put_sets` meets its contract. The invariant: the digits that are left still make the whole. Assumes nothing.
use mathlib.Core.Path.{◌≡◌}
use mathlib.Core.List.{List}
use Prim.Native.Nat.{ℕ, ◌+◌, ◌*◌, ◌-◌}
use lib.ListN.{set}
use Rattle.steps.specs.Boards.{at}
use Rattle.steps.specs.Loops.{each, range}
use Rattle.pair_cross.specs.code.Spots.{sets_put}
use Rattle.pair_cross.proofs.spots.put_sets.Given as goal

abbrev pub turn : ℕ → List ℕ → ℕ → List ℕ → List ℕ
turn line sets d q = set q (48 * line + d) (at sets d)

abbrev pub invariant-loop-digit : goal.invariant-loop-digit
invariant-loop-digit l = each (turn l.line l.sets) (range (16 - l.digit) l.digit) l.digits ≡ sets_put l.line l.sets l.initial.digits
