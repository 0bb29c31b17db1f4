-- `passes::sweep` meets its contract. The invariant: where the sweep stands after its first passes (`Going`), and the passes that are left still make the log and the tally. Assumes nothing.
use mathlib.Core.Path.{◌≡◌}
use Prim.Native.Nat.{◌-◌}
use Rattle.steps.specs.Difficulty.{removed_each}
use Rattle.steps.specs.Loops.{each, for, range}
use Rattle.steps.specs.Passes.{kinds, sweep}
use Rattle.steps.specs.StepLists.{sweep_instances}
use Rattle.steps.specs.code.Logs.{log_after}
use Rattle.passes.specs.code.Tallies.{tally_with, Tally}
use Rattle.passes.proofs.Rounds.{pass_instances, Going}
use Rattle.passes.proofs.Tallies.{tally_turn}
use Rattle.passes.proofs.sweep.Given as goal

abbrev pub invariant-loop-nth : goal.invariant-loop-nth
invariant-loop-nth l =
    Going l.givens.cells l.initial.laid.masks l.idle l.nth l.still l.laid.masks × (log_after l.givens.cells (for (range (6 - l.nth) l.nth) (pass_instances l.givens.cells)) l.laid.masks l.log ≡ log_after l.givens.cells sweep_instances l.initial.laid.masks l.initial.log)
    × Tally l.laid.masks l.tally × (each (tally_turn l.givens.cells) (range (6 - l.nth) l.nth) (l.laid.masks, l.tally) ≡ (sweep l.givens.cells l.initial.laid.masks, tally_with (removed_each l.givens.cells kinds l.initial.laid.masks) (sweep l.givens.cells l.initial.laid.masks) l.initial.tally))
