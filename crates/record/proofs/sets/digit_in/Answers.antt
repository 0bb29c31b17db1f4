-- `record::sets::digit_in` meets its contract. Assumes nothing.
use Rattle.candidates.proofs.Counts.{lowest-le}
use native.Mathlib.Omega.{arith}
use Rattle.record.proofs.sets.digit_in.Goals as goal

pub overflow_add-result : goal.overflow_add-result
overflow_add-result c = omega (arith, c.lowest_digit.ensures, lowest-le c.args.set)

pub overflow_cast-result : goal.overflow_cast-result
overflow_cast-result c = omega (arith, c.lowest_digit.ensures, lowest-le c.args.set)
