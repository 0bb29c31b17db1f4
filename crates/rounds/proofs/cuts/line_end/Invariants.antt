-- `rounds::cuts::line_end` meets its contract. Assumes nothing. The invariant: what is passed and what is left of the line are all of it.
use mathlib.Core.Path.{◌≡◌}
use Prim.Native.Nat.{◌+◌}
use lib.ListN.{drop}
use Rattle.rounds.specs.code.Cuts.{line_end}
use Rattle.rounds.proofs.cuts.line_end.Given as goal

abbrev pub invariant-loop-i : goal.invariant-loop-i
invariant-loop-i l = l.i + line_end (drop l.i l.piece) ≡ line_end l.piece
