-- What was counted is no more than a piece a turn.
use Rattle.std.proofs.Common.{◌≤◌, ◌*◌}
use Rattle.explain.proofs.reading.count_rest.Given as goal

abbrev pub invariant-loop-turn : goal.invariant-loop-turn
invariant-loop-turn g l = l.count ≤ 4096 * l.turn
