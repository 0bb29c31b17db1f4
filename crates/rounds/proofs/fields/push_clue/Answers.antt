-- `rounds::fields::push_clue` meets its contract. Assumes nothing.
use mathlib.Core.List.{[], ◌∷◌}
use Rattle.output.specs.Decimals.{decimal}
use Rattle.output.proofs.Pens.{writes-joined}
use Rattle.rounds.specs.Rounds.{check_bytes}
use Rattle.rounds.proofs.fields.push_clue.Goals as goal

pub returns : goal.returns
unfolding check_bytes
returns c = writes-joined (99 ∷ 108 ∷ 117 ∷ 101 ∷ 32 ∷ []) (decimal c.args.cell) c.args.line.now c.push_word.ensures c.push_number.ensures
