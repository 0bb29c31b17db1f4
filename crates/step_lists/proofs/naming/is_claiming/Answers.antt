-- `step_lists::naming::is_claiming` meets its contract. Assumes nothing.
use mathlib.Core.Path.{◌∙◌}
use borrow.Author.Tests.{lt-ltb}
use Rattle.step_lists.proofs.Meetings.{met-claiming}
use Rattle.step_lists.proofs.Tests.{passed}
use Rattle.step_lists.proofs.naming.is_claiming.Goals as goal

pub returns-then-line-lt18 : goal.returns-then-line-lt18
returns-then-line-lt18 c =
    let a = c.args in
    passed (lt-ltb a.line 18 c.if-line-lt18.true) (c.is_met.ensures ∙ met-claiming a.line a.digit a.block a.y a.z c.box_in.ensures c.if-line-lt18.true)
