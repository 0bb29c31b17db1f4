-- `text::any_other` meets its contract. Assumes nothing.
use mathlib.Core.Path.{◌≡◌}
use mathlib.Core.Bool.{◌||◌}
use Prim.Native.Nat.{◌-◌}
use lib.ListN.{get_or}
use Rattle.grid.specs.Lists.{range}
use Rattle.steps.specs.Loops.{first}
use Rattle.board.specs.code.Checks.{is_found}
use Rattle.text.specs.Texts.{is_other, first_other}
use Rattle.text.proofs.any_other.Given as goal

abbrev pub invariant-loop-index : goal.invariant-loop-index
invariant-loop-index l = (l.any || is_found (first (λ i. is_other (get_or l.text i 0)) (range (81 - l.index) l.index))) ≡ is_found (first_other l.text)
