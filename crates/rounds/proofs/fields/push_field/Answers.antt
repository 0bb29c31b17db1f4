-- `rounds::fields::push_field` meets its contract. Assumes nothing.
use mathlib.Core.List.{[], ◌∷◌}
use Rattle.output.specs.Decimals.{decimal}
use Rattle.output.proofs.Pens.{writes-joined}
use Rattle.rounds.specs.Rounds.{field}
use Rattle.rounds.proofs.fields.push_field.Goals as goal

pub returns : goal.returns
unfolding field
returns c = writes-joined (decimal c.args.n) (32 ∷ []) c.args.line.now c.push_number.ensures c.push.ensures
