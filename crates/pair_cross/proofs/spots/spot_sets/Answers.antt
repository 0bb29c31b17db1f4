use mathlib.Core.Path.{refl, ap, ◌∙◌}
use native.Mathlib.Omega.{arith}
use lib.ListN.{replicate}
use Rattle.grid.proofs.Fills.{fill_start, fill_on, fill_end}
use Rattle.pair_cross.specs.code.Spots.{spots_of, spot_sets}
use Rattle.pair_cross.proofs.spots.spot_sets.Goals as goal

pub loop-digit-init : goal.loop-digit-init
unfolding spot_sets
loop-digit-init c = fill_start _ 16 (replicate 16 0) refl

pub loop-digit-preserved : goal.loop-digit-preserved
loop-digit-preserved c =
    let l = c.loop-digit in
    fill_on _ 16 l.digit l.set-items l.invariant (omega arith) (c.spots.ensures ∙ ap (spots_of c.args.lanes.now c.args.lane) c.digit_mask.ensures)

pub returns : goal.returns
returns c = fill_end _ 16 c.loop-digit.digit c.loop-digit.set-items c.loop-digit.invariant c.loop-digit-test.false
