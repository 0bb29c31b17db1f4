use Rattle.candidates.proofs.Counts.{lowest-zeros}
use Rattle.candidates.proofs.masks.lowest_digit.Goals as goal

pub returns : goal.returns
returns c = lowest-zeros c.args.mask
