use mathlib.Core.Path.{ap, ◌∙◌}
use mathlib.Core.List.{[], ◌∷◌}
use Prim.Native.Nat.{ℕ}
use Rattle.grid.specs.Cells.{cells}
use Rattle.grid.proofs.Lists.{turn-done, turns-over}
use Rattle.steps.specs.Boards.{at}
use Rattle.output.specs.code.Tapes.{append}
use Rattle.output.specs.code.Pens.{writes}
use Rattle.output.proofs.Pens.{writes-map}
use Rattle.card.specs.Layout.{cell_byte}
use Rattle.card.proofs.lines.push_grid.Invariants.{turn}
use Rattle.card.proofs.lines.push_grid.Goals as goal

pub loop-mask-init : goal.loop-mask-init
unfolding cells
loop-mask-init c = writes-map (λ i. cell_byte (at c.args.masks.now i)) cells c.args.lines.now

pub loop-mask-preserved : goal.loop-mask-preserved
loop-mask-preserved c =
    turn-done (turn c.args.masks.now) 81 c.loop-mask.mask-index c.loop-mask-test.true
    (c.push.ensures ∙ ap (λ (b : ℕ). writes (append 256 (b ∷ [])) c.loop-mask.lines) c.cell_byte.ensures) c.loop-mask.invariant

pub returns : goal.returns
returns c =
    turns-over (turn c.args.masks.now) 81 c.loop-mask.mask-index c.loop-mask-test.false c.loop-mask.invariant
