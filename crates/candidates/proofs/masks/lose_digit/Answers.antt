use Rattle.std.proofs.Common.{ap, ◌∙◌}
use Rattle.candidates.specs.Masks.{minus}
use Rattle.candidates.proofs.Order.{minus-place}
use Rattle.candidates.proofs.masks.lose_digit.Goals as goal

pub returns : goal.returns
returns c = c.lose.ensures ∙ ap (minus c.args.mask) c.digit_mask.ensures ∙ minus-place c.args.mask c.args.place c.ranges.mask.fits
