-- `calls::lists::is_step` meets its contract. Assumes nothing.
use Rattle.calls.proofs.Numbers.{steps-below}
use Rattle.calls.proofs.lists.is_step.Goals as goal

pub returns : goal.returns
returns c = steps-below c.args.number
