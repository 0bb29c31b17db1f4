use mathlib.Core.Path.{refl, ◌∙◌}
use native.Mathlib.Omega.{arith}
use Rattle.grid.proofs.Marks.{one-pass}
use Rattle.grid.proofs.Standing.{standing-start, standing-yes, stays-no}
use Rattle.grid.proofs.verify_solution.Goals as goal

pub loop-band-init : goal.loop-band-init
loop-band-init c = (omega arith, standing-start _)

pub returns-then-not-mark_band : goal.returns-then-not-mark_band
returns-then-not-mark_band c = stays-no c.mark_band.ensures c.if-not-mark_band.true 81 (omega arith) ∙ one-pass.answer _

pub returns : goal.returns
returns c = (standing-yes c.loop-band.invariant.1 refl 81 (omega arith)).answer ∙ one-pass.answer _
