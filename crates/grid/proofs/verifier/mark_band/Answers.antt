use native.Mathlib.Omega.{arith}
use Rattle.grid.proofs.Standing.{standing-no}
use Rattle.grid.proofs.verifier.mark_band.Goals as goal

pub returns-then-not-mark_row : goal.returns-then-not-mark_row
returns-then-not-mark_row c = standing-no c.mark_row.ensures c.if-not-mark_row.true _ (omega arith) _
