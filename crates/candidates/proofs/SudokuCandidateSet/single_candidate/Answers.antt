use Rattle.std.proofs.Common.{◌≡◌, ◌+◌, eqb-true, sym, w32, ap, ◌∙◌, arith, pos, min}
use Rattle.candidates.specs.Masks.{low_nine, count, lowest}
use Rattle.candidates.specs.declared.SingleCandidate.TheVariants as only
use Rattle.candidates.proofs.Counts.{lowest-le}
use Rattle.candidates.proofs.Only.{one-digit}
use mir.Facts.{to_z-of_z}
use Rattle.candidates.proofs.SudokuCandidateSet.single_candidate.Goals as goal

pub returns-then-is_one : goal.returns-then-is_one
returns-then-is_one c =
    let m = c.args.self.mask in
    let found : min c.lowest_digit.result 16 + 1 ≡ lowest (low_nine m) + 1 = omega (arith, c.lowest_digit.ensures, lowest-le (low_nine m)) in
    ap only.Digit (to_z-of_z {w = w32} (record { sfits = c.digit_at.type_inv }) ∙ c.digit_at.ensures ∙ ap pos found)
    ∙ sym (one-digit m (eqb-true (count (low_nine m)) 1 (sym c.is_one.ensures ∙ c.if-is_one.true)))
