use Rattle.candidates.proofs.Counts.{test-none}
use Rattle.candidates.proofs.masks.is_none.Goals as goal

pub returns : goal.returns
returns c = test-none c.args.mask
