-- `step_lists::kinds::place_step` meets its contract. Assumes nothing.
use mathlib.Core.Path.{sym, ◌∙◌}
use Prim.Native.Nat.{◌-◌}
use Rattle.steps.specs.Instances.{place}
use Rattle.steps.specs.code.Decoding.{place_in}
use Rattle.cells.proofs.Losses.{told_none}
use Rattle.step_lists.proofs.Named.{after-left}
use Rattle.step_lists.proofs.kinds.place_step.Goals as goal

pub returns-else-is_place : goal.returns-else-is_place
returns-else-is_place c =
    let a = c.args in record {
      masks_after = after-left a.givens.now a.masks.now (place a.unit (a.digit - 1) (place_in a.unit a.cell)) (sym c.is_place.ensures ∙ c.if-is_place.false);
      value = c.if-is_place.false ∙ told_none a.masks.now;
    }
