-- `rounds::cuts::end_line` meets its contract: what is printed of a line has room. Assumes nothing.
use mathlib.Core.Path.{◌≡◌, ap, ◌∙◌}
use mathlib.Core.List.{List}
use Prim.Native.Nat.{ℕ, min}
use native.Mathlib.Omega.{arith}
use lib.ListN.{take}
use Rattle.std.proofs.Common.{rules}
use Rattle.output.specs.code.Tapes.{append}
use Rattle.output.specs.code.Pens.{writes}
use Rattle.output.proofs.Pens.{written}
use Rattle.rounds.specs.declared.cuts.Line.{Line}
use Rattle.rounds.specs.Rounds.{outcome_bytes}
use Rattle.rounds.specs.Summaries.{top, tallied}
use Rattle.rounds.specs.code.Kept.{outcome_from}
use Rattle.rounds.specs.code.Cuts.{state_with, fresh_line, bare_grid, whole_of, done_bytes, done_state}
use Rattle.rounds.proofs.Cutting.{passed-bytes, passed-state, held_bytes, held-state}
use Rattle.rounds.proofs.Short.{done-short}
use Rattle.rounds.proofs.cuts.end_line.Goals.{then-line, else-line}
use Rattle.rounds.proofs.cuts.end_line.Goals as goal

pub returns : goal.returns
unfolding whole_of
returns c =
    let s = c.args.state in
    let p = c.new-printed.result in
    let kept = take s.line.end s.kept in
    let whole : (m n : ℕ) → m ≡ min n top → n ≡ bare_grid s.line → m ≡ whole_of s.line = λ m n e g. omega (arith, e, g) in
    let printed : c.if-line.printed ≡ writes (append 256 (done_bytes s)) p = (
    elim c.if-line.branch [ then-line w ↦ w.printed-is ∙ w.push.ensures ∙ ap (λ (bs : List ℕ). writes (append 256 bs) p) (passed-bytes s w.if-line.true) | else-line w ↦ w.printed-is ∙ w.print_kept.ensures.0 ∙ ap (λ (n : ℕ). writes (append 256 (outcome_bytes kept (outcome_from kept n))) p) (whole _ _ w.min-whole.ensures w.bare_grid.ensures) ∙ ap (λ (bs : List ℕ). writes (append 256 bs) p) (held_bytes s w.if-line.false) ]
    ) in
    let state : state_with s.kept fresh_line c.if-line.tally ≡ done_state s = (
    elim c.if-line.branch [ then-line w ↦ ap (state_with s.kept fresh_line) w.tally-is ∙ passed-state s w.if-line.true | else-line w ↦ ap (state_with s.kept fresh_line) (w.tally-is ∙ w.print_kept.ensures.1 ∙ ap (λ (n : ℕ). tallied (outcome_from kept n) s.tally) (whole _ _ w.min-whole.ensures w.bare_grid.ensures)) ∙ held-state s w.if-line.false ]
    ) in
    let filled = written (done_bytes s) c.new-printed.ensures printed (done-short s) in
    (ap (λ (l : Line). state_with s.kept l c.if-line.tally) c.fresh_line.ensures ∙ state, filled.2, search rules)
