use mathlib.Core.Path.{refl, ap, ◌∙◌}
use native.Mathlib.Omega.{arith}
use lib.ListN.{replicate}
use Rattle.candidates.specs.Masks.{minus}
use Rattle.grid.proofs.Fills.{fill_start, fill_on, fill_end}
use Rattle.steps.specs.Boards.{at}
use Rattle.pair_cross.specs.code.Search.{lines_left}
use Rattle.pair_cross.proofs.search.lines_left.Goals as goal

pub loop-line-init : goal.loop-line-init
unfolding lines_left
loop-line-init c = fill_start _ 9 (replicate 9 0) refl

pub loop-line-preserved : goal.loop-line-preserved
loop-line-preserved c =
    let l = c.loop-line in
    let a = c.args in
    fill_on _ 9 l.line l.places-items l.invariant (omega arith) (c.lose.ensures ∙ ap (minus (at a.held.now l.line)) c.meet.ensures)

pub returns : goal.returns
returns c = fill_end _ 9 c.loop-line.line c.loop-line.places-items c.loop-line.invariant c.loop-line-test.false
