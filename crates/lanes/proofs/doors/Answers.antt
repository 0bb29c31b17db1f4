use mathlib.Core.Path.{refl}
use native.Mathlib.Omega.{arith}
use lib.ListN.{replicate}
use Rattle.grid.proofs.Fills.{fill_start, fill_on, fill_end}
use Rattle.lanes.specs.code.Lanes.{doors_of}
use Rattle.lanes.proofs.doors.Goals as goal

pub loop-cell-init : goal.loop-cell-init
unfolding doors_of
loop-cell-init c = fill_start _ 81 (replicate 81 0) refl

pub loop-cell-preserved : goal.loop-cell-preserved
loop-cell-preserved c =
    let l = c.loop-cell in
    fill_on _ 81 l.cell l.all l.invariant (omega arith) c.door.ensures

pub returns : goal.returns
returns c = fill_end _ 81 c.loop-cell.cell c.loop-cell.all c.loop-cell.invariant c.loop-cell-test.false
