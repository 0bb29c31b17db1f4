-- `techniques::naked_pairs::no_twins` meets its contract. The invariant: the places that are left still decide. Assumes nothing.
use mathlib.Core.Path.{◌≡◌}
use mathlib.Core.Bool.{Bool, ◌||◌}
use mathlib.Core.List.{List}
use Prim.Native.Nat.{ℕ, ◌-◌, ◌≤◌}
use lib.Dec.{eqb, leb}
use Rattle.steps.specs.Boards.{at}
use Rattle.steps.specs.Loops.{all, range}
use Rattle.techniques.specs.code.NakedPairs.{twin_of, no_twins}
use Rattle.techniques.proofs.naked_pairs.no_twins.Given as goal

abbrev pub lone : List ℕ → ℕ → Bool
lone nine i = eqb (at nine i) 0 || leb 9 (twin_of nine i)

abbrev pub invariant-loop-first : goal.invariant-loop-first
invariant-loop-first l = (l.first ≤ 9) × (all (lone l.nine) (range (9 - l.first) l.first) ≡ no_twins l.nine)
