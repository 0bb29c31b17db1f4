-- `chains::x_walk::walk` meets its contract: the one proof of its cycle of calls, itself. The measure is 5 less the depth, which is the path's length. The loop's invariant: the links that are left still mark what is missing. Assumes nothing.
use mathlib.Core.Path.{◌≡◌}
use mathlib.Core.Bool.{Bool}
use mathlib.Core.List.{List, reverse}
use Prim.Native.Nat.{ℕ, ◌-◌}
use lib.ListN.{length}
use Rattle.steps.specs.Loops.{each, range, up_to}
use Rattle.chains.proofs.XMarks.{link_marks}
use Rattle.chains.proofs.x_walk.+walk.Given as goal

abbrev pub decreases-walk : goal.decreases-walk
decreases-walk l = 5 - length l.path.now

-- what the links mark, by the path before the cell
abbrev pub marks : List ℕ → List ℕ → ℕ → Bool → List ℕ → ℕ → List Bool → List Bool
marks linked sums cell weak path = link_marks linked sums (5 - length path) weak (reverse path) cell

abbrev pub invariant-loop-i : goal.invariant-loop-i
invariant-loop-i l =
    each (marks l.links.linked l.links.sums l.cell l.weak l.path) (range (l.i-end - l.i) l.i) l.ends
    ≡ each (marks l.links.linked l.links.sums l.cell l.weak l.path) (up_to l.i-end) l.initial.ends
