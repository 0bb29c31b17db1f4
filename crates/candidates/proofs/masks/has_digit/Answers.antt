use Rattle.std.proofs.Common.{ℕ, eqb, sym, ap}
use Rattle.candidates.proofs.Membership.{bit_high}
use Rattle.candidates.proofs.masks.has_digit.Goals as goal

pub returns : goal.returns
returns c = sym (ap (λ (n : ℕ). eqb n 1) (bit_high c.args.mask 16 c.args.place c.ranges.mask.fits c.if-place-lt16.false))
