-- `step_lists::naming::is_pointing` meets its contract. Assumes nothing.
use mathlib.Core.Path.{sym, ◌∙◌}
use borrow.Author.Tests.{leb-true, ltb-true}
use Rattle.candidates.proofs.Tests.{both_left, both_right}
use Rattle.step_lists.proofs.Meetings.{met-pointing}
use Rattle.step_lists.proofs.Tests.{passed}
use Rattle.step_lists.proofs.naming.is_pointing.Goals as goal

pub returns-then-is_box : goal.returns-then-is_box
returns-then-is_box c =
    let a = c.args in
    let box = sym c.is_box.ensures ∙ c.if-is_box.true in
    let low = both_left _ _ box in
    let high = both_right _ _ box in
    passed low (passed high (c.is_met.ensures ∙ met-pointing a.block a.digit a.line a.y a.z c.line_in.ensures (leb-true 18 a.block low) (ltb-true a.block 27 high)))
