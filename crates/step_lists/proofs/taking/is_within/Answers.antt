-- `step_lists::taking::is_within` meets its contract. Assumes nothing.
use mathlib.Core.Path.{sym, ap, ◌∙◌}
use Prim.Native.Nat.{ℕ}
use lib.Bits.{bit_and}
use lib.Dec.{eqb}
use Rattle.candidates.proofs.Counts.{test-none}
use Rattle.step_lists.proofs.taking.is_within.Goals as goal

pub returns : goal.returns
returns c =
    let a = c.args in
    c.is_none.ensures ∙ sym (test-none c.meet.result)
    ∙ ap (λ (x : ℕ). eqb x 0) (c.meet.ensures ∙ ap (bit_and a.mask) c.lose.ensures)
