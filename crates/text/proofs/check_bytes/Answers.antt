use mathlib.Core.Path.{refl, ap, ◌∙◌}
use native.Mathlib.Omega.{arith}
use Rattle.stops.specs.declared.Stop.TheVariants.{OtherByte}
use Rattle.stops.proofs.Answers.{found-stop, none_found}
use Rattle.grid.specs.Cells.{cells}
use Rattle.text.specs.Texts.{is_other}
use Rattle.steps.proofs.Searches.{found, passed, ended}
use Rattle.text.proofs.check_bytes.Goals as goal

pub loop-index-init : goal.loop-index-init
unfolding cells
loop-index-init c = refl

pub returns-then-is_other : goal.returns-then-is_other
returns-then-is_other c =
    let l = c.loop-index in
    found-stop OtherByte (omega arith)
    (found _ 81 l.index l.invariant (omega arith) (c.is_other.ensures ∙ ap is_other c.byte_at.ensures) c.if-is_other.true)

pub loop-index-preserved : goal.loop-index-preserved
loop-index-preserved c =
    let l = c.loop-index in
    passed _ 81 l.index l.invariant (omega arith) (c.is_other.ensures ∙ ap is_other c.byte_at.ensures) c.if-is_other.false

pub returns : goal.returns
returns c = none_found OtherByte (ended _ 81 c.loop-index.index c.loop-index.invariant c.loop-index-test.false)
