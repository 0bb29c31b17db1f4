use Rattle.std.proofs.Common.{ℕ, eqb, ap, ◌∙◌, arith}
use Rattle.candidates.proofs.Counts.{test-one}
use Rattle.candidates.proofs.masks.is_one.Goals as goal

pub returns : goal.returns
returns c = ap (λ (n : ℕ). eqb n 0) c.lose_lowest.ensures ∙ test-one c.args.mask (omega arith) c.ranges.mask.fits
