-- `passes::sweep_on` meets its contract. The invariant: the sweeps that are left still make what settling leaves, and with those done its count, its log and its tally; the last passes, `idle` of them, removed nothing. Assumes nothing.
use mathlib.Core.Path.{◌≡◌}
use Prim.Native.Nat.{◌+◌, ◌-◌, ◌<◌}
use Rattle.steps.specs.Difficulty.{added, removed_in, pass_counts}
use Rattle.steps.specs.Passes.{settle, settle_in}
use Rattle.steps.specs.StepLists.{settling_instances}
use Rattle.steps.specs.code.Logs.{log_after}
use Rattle.steps.proofs.StepLogs.{sweeps_of}
use Rattle.passes.specs.code.Rounds.{LastIdle}
use Rattle.passes.specs.code.Tallies.{Tally}
use Rattle.passes.proofs.sweep_on.Given as goal

abbrev pub invariant-loop-sweeps : goal.invariant-loop-sweeps
invariant-loop-sweeps l =
    (l.idle < 6) × LastIdle l.givens.cells l.idle l.laid.masks × (l.sweeps + (settle_in (730 - l.sweeps) l.givens.cells l.laid.masks).sweeps ≡ (settle l.givens.cells l.initial.laid.masks).sweeps) × ((settle_in (730 - l.sweeps) l.givens.cells l.laid.masks).left ≡ (settle l.givens.cells l.initial.laid.masks).left)
    × (log_after l.givens.cells (sweeps_of l.givens.cells (settle_in (730 - l.sweeps) l.givens.cells l.laid.masks).sweeps) l.laid.masks l.log ≡ log_after l.givens.cells (settling_instances l.givens.cells l.initial.laid.masks) l.initial.laid.masks l.initial.log)
    × Tally l.laid.masks l.tally × (added l.tally (removed_in l.givens.cells (settle_in (730 - l.sweeps) l.givens.cells l.laid.masks).sweeps l.laid.masks) ≡ added l.initial.tally (pass_counts l.givens.cells l.initial.laid.masks))
