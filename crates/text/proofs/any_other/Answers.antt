use mathlib.Core.Path.{refl, ap, ◌∙◌}
use native.Mathlib.Omega.{arith}
use lib.ListN.{get_or}
use Rattle.grid.specs.Cells.{cells}
use Rattle.board.proofs.Flags.{flag-on, flag-end}
use Rattle.text.specs.Texts.{is_other}
use Rattle.text.proofs.any_other.Goals as goal

pub loop-index-init : goal.loop-index-init
unfolding cells
loop-index-init c = refl

pub loop-index-preserved : goal.loop-index-preserved
loop-index-preserved c =
    let l = c.loop-index in
    flag-on (λ i. is_other (get_or c.args.text.now i 0)) 81 l.index l.any l.invariant (omega arith) (c.is_other-any.ensures ∙ ap is_other c.byte_at.ensures)

pub returns : goal.returns
returns c =
    let l = c.loop-index in
    flag-end (λ i. is_other (get_or c.args.text.now i 0)) 81 l.index l.any l.invariant c.loop-index-test.false
