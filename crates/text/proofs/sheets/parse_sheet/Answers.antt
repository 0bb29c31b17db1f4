-- `text::sheets::parse_sheet` meets its contract. Assumes nothing.
use mathlib.Core.Path.{ap, ◌∙◌}
use native.Mathlib.Omega.{arith}
use lib.IntN.{ℤ}
use Rattle.stops.specs.Answer.{stop}
use Rattle.stops.specs.declared.Stop.TheVariants.{SheetLength}
use Rattle.stops.proofs.Numbers.{small}
use Rattle.text.proofs.SheetAnswers.{too_long, within}
use Rattle.text.proofs.sheets.parse_sheet.Goals as goal

pub returns-then-sheet-gt4096 : goal.returns-then-sheet-gt4096
returns-then-sheet-gt4096 c = ap (λ (z : ℤ). stop (SheetLength z)) (small (omega arith)) ∙ too_long c.args.sheet.now c.if-sheet-gt4096.true

pub returns : goal.returns
returns c = c.read_cells.ensures ∙ within c.args.sheet.now c.if-sheet-gt4096.false
