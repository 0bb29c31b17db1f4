-- `step_lists::taking::is_confined` meets its contract. Assumes nothing.
use mathlib.Core.Path.{sym, ap, ◌∙◌}
use Prim.Native.Nat.{ℕ}
use lib.Dec.{eqb}
use Rattle.candidates.specs.Masks.{minus}
use Rattle.candidates.proofs.Counts.{test-none}
use Rattle.step_lists.proofs.taking.is_confined.Goals as goal

pub returns : goal.returns
returns c =
    let a = c.args in
    c.is_none.ensures ∙ sym (test-none c.lose.result)
    ∙ ap (λ (x : ℕ). eqb x 0) (c.lose.ensures ∙ ap (λ (x : ℕ). minus x a.places) c.held_places.ensures)
