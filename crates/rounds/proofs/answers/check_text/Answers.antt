-- `rounds::answers::check_text` meets its contract. Assumes nothing.
use mathlib.Core.Path.{sym, ap, ◌∙◌}
use mathlib.Core.Option.{none, some}
use Prim.Native.Nat.{◌-◌}
use native.Mathlib.Omega.{arith}
use borrow.Author.Tests.{lt-ltb}
use lib.Dec.{ltb}
use lib.ListN.{length, take, drop, length-drop}
use lib.Seq.{take_all, length-take-le}
use Rattle.candidates.proofs.Tests.{cond-true}
use Rattle.rounds.specs.Answers.{answer_check, check_of}
use Rattle.rounds.proofs.answers.check_text.Goals as goal

pub slice_bounds-check_answer-end : goal.slice_bounds-check_answer-end
slice_bounds-check_answer-end c = sym (length-take-le 81 c.args.text.now (omega arith))

pub returns-then-text-gt81 : goal.returns-then-text-gt81
returns-then-text-gt81 c =
    let text = c.args.text.now in
    c.check_answer.ensures
    ∙ ap (answer_check (take 81 text)) (take_all (length text - 82) (drop 82 text) (omega (arith, length-drop 82 text)))
    ∙ ap (check_of (take 81 text)) (sym (cond-true (ltb 81 (length text)) (some (drop 82 text)) none (lt-ltb 81 (length text) c.if-text-gt81.true)))
