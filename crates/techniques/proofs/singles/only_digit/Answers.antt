-- `techniques::singles::only_digit` meets its contract. The law of the set's answer is cited. Assumes nothing.
use mathlib.Core.Path.{sym, ◌∙◌}
use Rattle.candidates.proofs.Only.{Only, single-tells, digit-fits, digit-read}
use Rattle.techniques.proofs.singles.only_digit.Goals as goal

pub overflow_cast-result : goal.overflow_cast-result
overflow_cast-result c =
    let digit = c.in-Digit.digit in
    let says : Only c.args.mask digit = single-tells c.args.mask (sym c.in-Digit.is ∙ c.single_candidate.ensures) in
    digit-fits says (digit-read says)
