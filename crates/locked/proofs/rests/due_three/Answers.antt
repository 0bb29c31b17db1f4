-- `locked::rests::due_three` meets its contract. Assumes nothing.
use mathlib.Core.Path.{◌∙◌}
use Rattle.locked.specs.code.Rests.{due_three}
use Rattle.locked.proofs.rests.due_three.Goals as goal

pub returns : goal.returns
unfolding due_three
returns c =
    c.join-2.ensures ∙ rw (c.join.ensures, c.lose-third.ensures, c.lose-second.ensures, c.lose-first.ensures)
