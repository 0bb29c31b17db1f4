-- `passes::tally_pass` meets its contract: the seven numbers of the tally add up to the same as before, so none grows too large. Assumes nothing.
use mathlib.Core.Path.{refl}
use native.Mathlib.Omega.{arith}
use Rattle.passes.specs.code.Tallies.{tallied}
use Rattle.passes.proofs.Tallies.{two-summed}
use Rattle.passes.proofs.tally_pass.Goals as goal

pub overflow_add-tally : goal.overflow_add-tally
overflow_add-tally c =
    record { fits = omega (arith, two-summed c.args.tally.now c.args.nth 6 (omega (arith, c.requires.0)), c.requires.2.fits) }

pub returns : goal.returns
unfolding tallied
returns c = refl
