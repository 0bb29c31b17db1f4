use Rattle.std.proofs.Common.{arith}
use Rattle.candidates.proofs.Counts.{tail-is}
use Rattle.candidates.proofs.masks.lose_lowest.Goals as goal

pub returns : goal.returns
returns c = tail-is c.args.mask (omega arith) c.ranges.mask.fits
