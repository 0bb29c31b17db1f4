-- `rounds::cuts::feed` meets its contract. Assumes nothing.
use mathlib.Core.Path.{◌≡◌, sym, ap, ap₂, ◌∙◌}
use mathlib.Core.List.{List}
use Prim.Native.Nat.{ℕ, ◌+◌, ◌<◌, ◌≤◌}
use native.Mathlib.Omega.{arith}
use lib.ListN.{length, get_or, take}
use Rattle.steps.specs.Loops.{each}
use Rattle.output.specs.Lent.{over}
use Rattle.rounds.specs.declared.cuts.State.{State}
use Rattle.rounds.specs.declared.cuts.Out.TheVariants.{Lent}
use Rattle.rounds.specs.code.Cuts.{state_with, fed_with, Held, held, kept_one, done_bytes, done_state, line_end, is_passed, pass_on, keep_on}
use Rattle.rounds.proofs.Cutting.{passed-fed, passed_none, whole-fed, whole-bytes, part-fed, part_none}
use Rattle.rounds.proofs.cuts.feed.Goals as goal

pub returns-then-is_passed : goal.returns-then-is_passed
returns-then-is_passed c =
    let tests : let a = c.args in c.is_passed.result ≡ is_passed a.state.line (get_or a.piece.now 0 0) = (
    let a = c.args in
    c.is_passed.ensures ∙ ap (is_passed a.state.line) c.byte_at.ensures
    ) in
    let a = c.args in
    let s = a.state in
    let x = a.piece.now in
    let yes = sym (tests) ∙ c.if-is_passed.true in
    (c.pass_on.ensures ∙ ap (pass_on s (length x)) c.line_end-end.ensures.0 ∙ passed-fed s x yes, ap (λ (b : List ℕ). over b a.out.now) (passed_none s x yes))

pub returns-then-end-piece : goal.returns-then-end-piece
unfolding keep_on
returns-then-end-piece c =
    let tests : let a = c.args in c.is_passed.result ≡ is_passed a.state.line (get_or a.piece.now 0 0) = (
    let a = c.args in
    c.is_passed.ensures ∙ ap (is_passed a.state.line) c.byte_at.ensures
    ) in
    let keeps : let a = c.args in state_with c.keep-longer.new.kept c.keep-longer.result a.state.tally ≡ keep_on a.state (take (line_end a.piece.now) a.piece.now) = (
    let a = c.args in
    let s = a.state in
    ap (λ (h : Held). state_with h.kept h.line s.tally) (c.keep-longer.ensures ∙ ap (λ (n : ℕ). each kept_one (take n a.piece.now) (held s.kept s.line)) c.line_end-end.ensures.0)
    ) in
    let a = c.args in
    let s = a.state in
    let x = a.piece.now in
    let no = sym (tests) ∙ c.if-is_passed.false in
    let n = c.line_end-end.ensures.0 in
    let less : line_end x < length x = omega (arith, n, c.if-end-piece.true) in
    let more = keeps in
    let bytes = ap done_bytes more ∙ whole-bytes s x no less in (
      ap₂ (λ (q : State) (m : ℕ). fed_with q (c.line_end-end.result + 1) (Lent m)) (c.end_line-ended.ensures.0 ∙ ap done_state more) (c.end_line-ended.ensures.1 ∙ ap (λ (q : State). length (done_bytes q)) more)
          ∙ ap (λ (m : ℕ). fed_with (done_state (keep_on s (take (line_end x) x))) (m + 1) (Lent (length (done_bytes (keep_on s (take (line_end x) x)))))) n
          ∙ whole-fed s x no less,
      c.end_line-ended.ensures.2 ∙ ap (λ (b : List ℕ). over b a.out.now) bytes,
    )

pub returns : goal.returns
unfolding keep_on
returns c =
    let tests : let a = c.args in c.is_passed.result ≡ is_passed a.state.line (get_or a.piece.now 0 0) = (
    let a = c.args in
    c.is_passed.ensures ∙ ap (is_passed a.state.line) c.byte_at.ensures
    ) in
    let keeps : let a = c.args in state_with c.keep-longer.new.kept c.keep-longer.result a.state.tally ≡ keep_on a.state (take (line_end a.piece.now) a.piece.now) = (
    let a = c.args in
    let s = a.state in
    ap (λ (h : Held). state_with h.kept h.line s.tally) (c.keep-longer.ensures ∙ ap (λ (n : ℕ). each kept_one (take n a.piece.now) (held s.kept s.line)) c.line_end-end.ensures.0)
    ) in
    let a = c.args in
    let s = a.state in
    let x = a.piece.now in
    let no = sym (tests) ∙ c.if-is_passed.false in
    let n = c.line_end-end.ensures.0 in
    let all : length x ≤ line_end x = omega (arith, n, c.if-end-piece.false) in
    (ap₂ (λ (q : State) (m : ℕ). fed_with q m (Lent 0)) (keeps) n ∙ part-fed s x no all, ap (λ (b : List ℕ). over b a.out.now) (part_none s x no all))
