use Rattle.std.proofs.Common.{◌-◌, ◌≤◌, arith, rules}
use Rattle.candidates.proofs.Counts.{first-ge}
use Rattle.candidates.proofs.SudokuCandidateIterIterator.next.Goals as goal

-- what is left is above the digit that was given
pub returns-clause-goes : goal.returns-clause-goes
returns-clause-goes c =
    let past : c.args.self.now.current ≤ c.first_digit-place.result = omega (arith, c.first_digit-place.ensures, first-ge (9 - c.args.self.now.current) c.args.self.now.current c.args.self.now.mask) in
    search (rules, past)
