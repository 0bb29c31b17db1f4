-- `techniques::x_wings::x_wings` meets its contract. Assumes nothing.
use mathlib.Core.Path.{ap, ◌∙◌}
use Rattle.steps.specs.Loops.{each, up_to}
use Rattle.techniques.specs.declared.x_wings.Lines.TheVariants as lines_of
use Rattle.techniques.specs.code.XWings.{wing_digit}
use Rattle.techniques.proofs.XWings.{wings-are}
use Rattle.techniques.proofs.x_wings.x_wings.Goals as goal

pub returns : goal.returns
returns c =
    let a = c.args in
    c.wings_in-2.ensures ∙ ap (each (wing_digit a.givens.now lines_of.Columns) (up_to 9)) c.wings_in.ensures ∙ wings-are a.givens.now a.masks.now
