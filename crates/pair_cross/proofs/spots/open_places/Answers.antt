use mathlib.Core.Path.{refl}
use native.Mathlib.Omega.{arith}
use lib.ListN.{replicate}
use Rattle.grid.proofs.Fills.{fill_start, fill_on, fill_end}
use Rattle.pair_cross.specs.code.Spots.{open_places}
use Rattle.pair_cross.proofs.spots.open_places.Goals as goal

pub loop-line-init : goal.loop-line-init
unfolding open_places
loop-line-init c = fill_start _ 9 (replicate 9 0) refl

pub loop-line-preserved : goal.loop-line-preserved
loop-line-preserved c =
    let l = c.loop-line in
    fill_on _ 9 l.line l.places-items l.invariant (omega arith) c.spots.ensures

pub returns : goal.returns
returns c = fill_end _ 9 c.loop-line.line c.loop-line.places-items c.loop-line.invariant c.loop-line-test.false
