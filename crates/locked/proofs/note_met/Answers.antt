-- `locked::note_met` meets its contract. Assumes nothing.
use mathlib.Core.Path.{sym, ap, ◌∙◌}
use mathlib.Core.List.{List}
use Prim.Native.Nat.{ℕ}
use native.Mathlib.Omega.{arith}
use borrow.Author.Tests.{lt-ltb, le-ltb}
use lib.Dec.{ltb}
use Rattle.candidates.proofs.Tests.{cond-true, cond-false}
use Rattle.steps.specs.code.Logs.{noted}
use Rattle.cells.proofs.Meetings.{met-below}
use Rattle.locked.proofs.LockedTurns.{instance-bytes}
use Rattle.locked.proofs.note_met.Goals as goal

pub note-requires : goal.note-requires
note-requires c =
    omega (arith, met-below c.args.unit c.args.nth c.requires.0 c.requires.2, c.met_unit.ensures)

pub note-requires-else-unit-lt18 : goal.note-requires-else-unit-lt18
note-requires-else-unit-lt18 c =
    omega (arith, met-below c.args.unit c.args.nth c.requires.0 c.requires.2, c.met_unit-else-unit-lt18.ensures)

pub returns-then-unit-lt18 : goal.returns-then-unit-lt18
returns-then-unit-lt18 c =
    let a = c.args in
    c.note.ensures
    ∙ ap (λ (bs : List ℕ). noted bs a.log.now)
    (instance-bytes a.unit a.digit a.nth c.requires.0 c.requires.2 (sym (cond-true (ltb a.unit 18) 4 3 (lt-ltb a.unit 18 c.if-unit-lt18.true))) c.met_unit.ensures)

pub returns-else-unit-lt18 : goal.returns-else-unit-lt18
returns-else-unit-lt18 c =
    let a = c.args in
    c.note-else-unit-lt18.ensures
    ∙ ap (λ (bs : List ℕ). noted bs a.log.now)
    (instance-bytes a.unit a.digit a.nth c.requires.0 c.requires.2 (sym (cond-false (ltb a.unit 18) 4 3 (le-ltb a.unit 18 c.if-unit-lt18.false))) c.met_unit-else-unit-lt18.ensures)
