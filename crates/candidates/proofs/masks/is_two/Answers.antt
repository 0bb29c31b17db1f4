use Rattle.std.proofs.Common.{ℕ, eqb, ap, ◌∙◌}
use Rattle.candidates.specs.Masks.{count}
use Rattle.candidates.proofs.Counts.{test-two}
use Rattle.candidates.proofs.masks.is_two.Goals as goal

pub returns : goal.returns
returns c = c.is_one.ensures ∙ ap (λ (n : ℕ). eqb (count n) 1) c.lose_lowest.ensures ∙ test-two c.args.mask c.ranges.mask.fits
