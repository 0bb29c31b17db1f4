-- `step_lists::kinds::pair_step` meets its contract. Assumes nothing.
use mathlib.Core.Path.{sym, ◌∙◌}
use Prim.Native.Nat.{◌-◌}
use Rattle.steps.specs.Instances.{pair}
use Rattle.steps.specs.code.Decoding.{place_in}
use Rattle.cells.proofs.Losses.{told_none}
use Rattle.step_lists.proofs.Named.{after-left}
use Rattle.step_lists.proofs.kinds.pair_step.Goals as goal

pub returns : goal.returns
returns c =
    let a = c.args in record {
      masks_after = after-left a.givens.now a.masks.now (pair a.unit (place_in a.unit a.first) (place_in a.unit a.second) (a.a - 1) (a.b - 1)) (sym c.is_pair.ensures ∙ c.if-is_pair.false);
      value = told_none a.masks.now;
    }
