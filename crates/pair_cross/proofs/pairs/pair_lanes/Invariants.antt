-- `pair_cross::pairs::pair_lanes` meets its contract. The invariant: the families that are left still make the whole, and the masks stand in the lanes. Assumes nothing.
use mathlib.Core.Path.{◌≡◌}
use Prim.Native.Nat.{◌-◌}
use Rattle.steps.specs.Loops.{each, for, range}
use Rattle.steps.specs.Passes.{pass, instances, Pair}
use Rattle.steps.specs.code.Logs.{log_after}
use Rattle.pair_cross.specs.code.Lively.{pair_family, family_instances}
use Rattle.pair_cross.proofs.pairs.pair_lanes.Given as goal

abbrev pub invariant-loop-family : goal.invariant-loop-family
invariant-loop-family l =
    (each (pair_family l.givens.cells) (range (3 - l.family) l.family) l.laid.masks ≡ pass l.givens.cells Pair l.initial.laid.masks)
    × (log_after l.givens.cells (for (range (3 - l.family) l.family) family_instances) l.laid.masks l.log ≡ log_after l.givens.cells (instances Pair) l.initial.laid.masks l.initial.log)
