-- At a cell the state is the one after as many moves, and the clues before it are set.
use mathlib.Core.Path.{◌≡◌}
use Rattle.grid.proofs.Fills.{filled}
use Rattle.trial_rounds.specs.Rounds.{clue_at, round_clues, state_after}
use Rattle.trial_rounds.proofs.round_clues.Given as goal

abbrev pub invariant-loop-cell : goal.invariant-loop-cell
invariant-loop-cell l = (filled (clue_at l.start l.percentage l.solution) 81 l.cell l.clues ≡ round_clues l.start l.percentage l.solution) × (l.state ≡ state_after l.start l.cell)
