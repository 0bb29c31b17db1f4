-- `pair_cross::twos::two_lines` meets its contract. Two places are one instance. The invariant: the places that are left still make the whole, and the two lines hold what they held. Assumes nothing.
use Rattle.pair_cross.proofs.TwoLines.{left_from, left_at, Left}
use Rattle.pair_cross.proofs.twos.two_lines.Given as goal

abbrev pub invariant-loop-a : goal.invariant-loop-a
invariant-loop-a l = Left l.givens l.frame l.i l.j l.held l.fn.masks l.fn.log (left_from l.frame l.i l.j l.a) l.masks l.log

abbrev pub invariant-loop-b : goal.invariant-loop-b
invariant-loop-b l = Left l.givens l.frame l.i l.j l.held l.fn.masks l.fn.log (left_at l.frame l.i l.j l.a l.b) l.masks l.log
