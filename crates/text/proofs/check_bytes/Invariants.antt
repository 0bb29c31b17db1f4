-- `text::check_bytes` meets its contract. Assumes nothing.
use mathlib.Core.Path.{◌≡◌}
use Prim.Native.Nat.{◌-◌}
use lib.ListN.{get_or}
use Rattle.grid.specs.Lists.{range}
use Rattle.steps.specs.Loops.{first}
use Rattle.text.specs.Texts.{is_other, first_other}
use Rattle.text.proofs.check_bytes.Given as goal

abbrev pub invariant-loop-index : goal.invariant-loop-index
invariant-loop-index l = first (λ i. is_other (get_or l.text i 0)) (range (81 - l.index) l.index) ≡ first_other l.text
