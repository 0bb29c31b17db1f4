-- `step_lists::taking::take_locked` meets its contract. Assumes nothing.
use mathlib.Core.Path.{ap, ◌∙◌}
use Prim.Native.Nat.{ℕ}
use Rattle.cells.specs.code.Meets.{meet_turn}
use Rattle.step_lists.proofs.Instances.{locked-taken}
use Rattle.step_lists.proofs.taking.take_locked.Goals as goal

pub returns : goal.returns
returns c =
    let a = c.args in
    let e =
    c.lose_met.ensures.masks_after ∙ ap (λ (x : ℕ). meet_turn a.givens.now a.unit a.digit x a.nth a.masks.now) c.held_places-held.ensures
    ∙ locked-taken a.givens.now a.masks.now a.unit a.digit a.nth c.requires.0 c.requires.1 c.requires.2 in record {
      masks_after = e;
      value = c.lose_met.ensures.value;
    }
