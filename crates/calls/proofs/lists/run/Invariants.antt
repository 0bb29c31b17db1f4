-- `calls::lists::run` meets its contract. The invariant: the steps that are left, from the masks so far, make the whole, and the board is one that no stop refuses. Assumes nothing.
use mathlib.Core.Path.{◌≡◌}
use lib.ListN.{drop}
use Rattle.steps.specs.Boards.{Admissible}
use Rattle.steps.specs.Calls.{run}
use Rattle.steps.proofs.Lists.{Good}
use Rattle.calls.specs.Replays.{calls_of}
use Rattle.calls.proofs.lists.run.Given as goal

abbrev pub invariant-loop-step : goal.invariant-loop-step
invariant-loop-step l =
    Good Admissible (record { clues = l.clues; entries = l.entries; masks = l.masks })
    × (run (calls_of (drop l.step-index l.steps)) (record { clues = l.clues; entries = l.entries; masks = l.masks }) ≡ run (calls_of l.steps) (record { clues = l.clues; entries = l.entries; masks = l.initial.masks }))
