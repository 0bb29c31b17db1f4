-- `card::lines::cell_byte` meets its contract. Assumes nothing.
use mathlib.Core.Path.{subst, sym, ap, ◌∙◌}
use Prim.Native.Nat.{◌+◌}
use native.Mathlib.Omega.{arith}
use lib.IntN.{ℤ, nat_abs}
use mir.Syntax.{w8}
use mir.Val.{Fits}
use Rattle.candidates.specs.declared.SingleCandidate.TheVariants as only
use Rattle.candidates.proofs.Only.{Only, single-tells, digit-read, digit-fits}
use Rattle.output.specs.Decimals.{digit_byte}
use Rattle.card.proofs.CellBytes.{cell-said}
use Rattle.card.proofs.lines.cell_byte.Goals as goal

pub overflow_cast-result : goal.overflow_cast-result
overflow_cast-result c =
    let says : Only c.args.mask c.in-Digit.digit = single-tells c.args.mask (sym c.in-Digit.is ∙ c.single_candidate.ensures) in
    digit-fits says (digit-read says)

pub overflow_add-result : goal.overflow_add-result
overflow_add-result c =
    let says : Only c.args.mask c.in-Digit.digit = single-tells c.args.mask (sym c.in-Digit.is ∙ c.single_candidate.ensures) in
    subst (λ (z : ℤ). Fits w8 (48 + nat_abs z)) (sym (digit-read says ∙ says.digit)) (record { fits = omega (arith, says.below) })

pub returns-in-Digit : goal.returns-in-Digit
returns-in-Digit c =
    let answered = sym c.in-Digit.is ∙ c.single_candidate.ensures in
    ap (λ (z : ℤ). digit_byte (nat_abs z)) (digit-read (single-tells c.args.mask answered)) ∙ cell-said c.args.mask (only.Digit c.in-Digit.digit) answered

pub returns-in-Empty : goal.returns-in-Empty
returns-in-Empty c = cell-said c.args.mask only.Empty (sym c.in-Empty.is ∙ c.single_candidate.ensures)

pub returns-in-Several : goal.returns-in-Several
returns-in-Several c = cell-said c.args.mask only.Several (sym c.in-Several.is ∙ c.single_candidate.ensures)
