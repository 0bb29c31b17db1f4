-- `step_lists::kinds::lone_step` meets its contract. Assumes nothing.
use mathlib.Core.Path.{sym, ◌∙◌}
use Prim.Native.Nat.{◌-◌}
use Rattle.steps.specs.Instances.{lone}
use Rattle.cells.proofs.Losses.{told_none}
use Rattle.step_lists.proofs.Named.{after-left}
use Rattle.step_lists.proofs.kinds.lone_step.Goals as goal

pub returns-else-is_lone : goal.returns-else-is_lone
returns-else-is_lone c =
    let a = c.args in record {
      masks_after = after-left a.givens.now a.masks.now (lone a.cell (a.digit - 1)) (sym c.is_lone.ensures ∙ c.if-is_lone.false);
      value = c.if-is_lone.false ∙ told_none a.masks.now;
    }
