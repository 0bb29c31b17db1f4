-- `rounds::cuts::pass_on` meets its contract. Assumes nothing.
use mathlib.Core.Path.{sym, ap, ◌∙◌}
use Prim.Native.Nat.{◌+◌}
use borrow.Author.Tests.{lt-ltb, le-ltb}
use lib.Dec.{ltb}
use Rattle.candidates.proofs.Tests.{cond-true, cond-false}
use Rattle.rounds.specs.declared.cuts.Line.{Line}
use Rattle.rounds.specs.declared.cuts.Out.TheVariants.{Piece}
use Rattle.rounds.specs.code.Cuts.{state_with, fed_with, fresh_line, passed_line, pass_on}
use Rattle.rounds.proofs.cuts.pass_on.Goals as goal

pub returns-then-end-length : goal.returns-then-end-length
unfolding pass_on
returns-then-end-length c =
    let a = c.args in
    let s = a.state in
    let on = fed_with (state_with s.kept fresh_line s.tally) (a.end + 1) (Piece (a.end + 1)) in
    let all = fed_with (state_with s.kept (passed_line s.line) s.tally) a.end (Piece a.end) in
    ap (λ (l : Line). fed_with (state_with s.kept l s.tally) (a.end + 1) (Piece (a.end + 1))) c.fresh_line.ensures
    ∙ sym (cond-true (ltb a.end a.length) on all (lt-ltb a.end a.length c.if-end-length.true))

pub returns : goal.returns
unfolding pass_on
returns c =
    let a = c.args in
    let s = a.state in
    let on = fed_with (state_with s.kept fresh_line s.tally) (a.end + 1) (Piece (a.end + 1)) in
    let all = fed_with (state_with s.kept (passed_line s.line) s.tally) a.end (Piece a.end) in
    sym (cond-false (ltb a.end a.length) on all (le-ltb a.end a.length c.if-end-length.false))
