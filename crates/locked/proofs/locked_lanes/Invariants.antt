-- `locked::locked_lanes` meets its contract. The invariant: the units that are left still make the whole, of the masks and of the log, and the rests hold all that may be lost. Assumes nothing.
use mathlib.Core.Bool.{cond}
use mathlib.Core.Path.{◌≡◌}
use Prim.Native.Nat.{◌-◌, ◌≤◌}
use Rattle.steps.specs.Loops.{each, for, range}
use Rattle.steps.specs.code.Logs.{log_after}
use Rattle.locked.specs.code.Locked.{unit_instances, locked_unit, units_of}
use Rattle.locked.proofs.RestDue.{Outs}
use Rattle.locked.proofs.locked_lanes.Given as goal

abbrev pub invariant-loop-unit : goal.invariant-loop-unit
invariant-loop-unit l =
    (cond l.boxes 18 0 ≤ l.unit) × (each (locked_unit l.givens.cells) (range (cond l.boxes 27 18 - l.unit) l.unit) l.masks ≡ each (locked_unit l.givens.cells) (units_of l.boxes) l.initial.masks) × Outs l.givens.cells l.masks l.boxes l.rests
    × (log_after l.givens.cells (for (range (cond l.boxes 27 18 - l.unit) l.unit) unit_instances) l.masks l.log ≡ log_after l.givens.cells (for (units_of l.boxes) unit_instances) l.initial.masks l.initial.log)
