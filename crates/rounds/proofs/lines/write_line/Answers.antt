-- `rounds::lines::write_line` meets its contract. Assumes nothing.
use mathlib.Core.Path.{sym, ap, ◌∙◌}
use mathlib.Core.List.{List, [], ◌∷◌}
use Prim.Native.Nat.{ℕ}
use lib.ListN.{take}
use Rattle.output.specs.code.Tapes.{append}
use Rattle.output.specs.code.Pens.{writes}
use Rattle.output.proofs.Pens.{writes-joined}
use Rattle.rounds.specs.Rounds.{Outcome, outcome_bytes}
use Rattle.rounds.specs.Summaries.{tallied}
use Rattle.rounds.specs.code.Kept.{scored_from}
use Rattle.rounds.proofs.Kept.{refused-one, scored-bytes, from-none, from-other, from-grid}
use Rattle.rounds.proofs.lines.write_line.Goals as goal

pub returns-then-length-eq0 : goal.returns-then-length-eq0
unfolding tallied
returns-then-length-eq0 c =
    let a = c.args in
    let is = from-none a.kept.now a.whole (sym c.length_without-length.ensures ∙ c.if-length-eq0.true) in (
      writes-joined a.kept.now (10 ∷ []) a.out.now c.push_word.ensures c.push.ensures
          ∙ ap (λ (o : Outcome). writes (append 256 (outcome_bytes a.kept.now o)) a.out.now) is,
      ap (λ (o : Outcome). tallied o a.tally.now) is,
    )

pub returns-then-whole-ne81 : goal.returns-then-whole-ne81
unfolding tallied
returns-then-whole-ne81 c =
    let a = c.args in
    let is = from-other a.kept.now a.whole (λ n. c.if-length-eq0.false (c.length_without-length.ensures ∙ n)) c.if-whole-ne81.true in (
      c.number_line.ensures
          ∙ ap (λ (bytes : List ℕ). writes (append 256 bytes) a.out.now) (refused-one a.whole)
          ∙ ap (λ (o : Outcome). writes (append 256 (outcome_bytes a.kept.now o)) a.out.now) is,
      c.tally_refused.ensures ∙ ap (λ (o : Outcome). tallied o a.tally.now) is,
    )

pub returns : goal.returns
returns c =
    let a = c.args in
    let bare = ap (λ (n : ℕ). take n a.kept.now) c.length_without-length.ensures in
    let is = ap scored_from bare ∙ from-grid a.kept.now a.whole (λ n. c.if-length-eq0.false (c.length_without-length.ensures ∙ n)) c.if-whole-ne81.false in (
      c.score_text.ensures.0 ∙ ap (λ (bytes : List ℕ). writes (append 256 bytes) a.out.now) (scored-bytes _ a.kept.now)
          ∙ ap (λ (o : Outcome). writes (append 256 (outcome_bytes a.kept.now o)) a.out.now) is,
      c.score_text.ensures.1 ∙ ap (λ (o : Outcome). tallied o a.tally.now) is,
    )
