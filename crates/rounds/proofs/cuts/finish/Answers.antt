-- `rounds::cuts::finish` meets its contract. Assumes nothing.
use mathlib.Core.Path.{◌≡◌, ap, ◌∙◌}
use mathlib.Core.Bool.{true, false}
use mathlib.Core.List.{List}
use mathlib.Core.Logic.{⊎_elim}
use Prim.Native.Nat.{ℕ}
use borrow.Author.Tests.{eq-eqb, ne_eqb}
use lib.ListN.{length}
use Rattle.output.specs.Lent.{over}
use Rattle.rounds.specs.code.Cuts.{is_begun}
use Rattle.rounds.proofs.Cutting.{begun-bytes, begun-state, unbegun-bytes, unbegun-state}
use Rattle.rounds.proofs.cuts.finish.Goals as goal

pub returns-then-state : goal.returns-then-state
returns-then-state c =
    let s = c.args.state in
    let begun : is_begun s.line ≡ true = ⊎_elim (λ e. rw e) (λ (e, n). rw (e, ne_eqb s.line.end 0 n)) c.then-state.either in
    let bytes = begun-bytes s begun in
    (c.end_line.ensures.0 ∙ begun-state s begun, c.end_line.ensures.1 ∙ ap length bytes, c.end_line.ensures.2 ∙ ap (λ (b : List ℕ). over b c.args.out.now) bytes)

pub returns : goal.returns
returns c =
    let s = c.args.state in
    let none : is_begun s.line ≡ false = rw (c.if-state.false, eq-eqb s.line.end 0 c.if-state-ne0.false) in
    let bytes = unbegun-bytes s none in
    (unbegun-state s none, ap length bytes, ap (λ (b : List ℕ). over b c.args.out.now) bytes)
