-- `locked::rests::first_some` meets its contract. Assumes nothing.
use mathlib.Core.Path.{sym, ◌∙◌}
use Rattle.locked.proofs.FirstDue.{none-joined}
use Rattle.locked.proofs.rests.first_some.Goals as goal

pub returns-then-join_all-eq0 : goal.returns-then-join_all-eq0
returns-then-join_all-eq0 c = none-joined c.args.sets.now (sym c.join_all.ensures ∙ c.if-join_all-eq0.true)
