-- `pair_cross::spots::digit_lanes` meets its contract. The invariant: the lines before this one are written. Assumes nothing.
use Rattle.pair_cross.proofs.SpotLines.{Written}
use Rattle.pair_cross.proofs.spots.digit_lanes.Given as goal

abbrev pub invariant-loop-line : goal.invariant-loop-line
invariant-loop-line l = Written l.lanes l.first l.line l.digits
