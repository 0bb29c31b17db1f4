-- `rounds::fields::push_check` meets its contract. Assumes nothing.
use mathlib.Core.Path.{sym, ap, ◌∙◌}
use Rattle.output.specs.code.Tapes.{append}
use Rattle.output.specs.code.Pens.{writes}
use Rattle.rounds.specs.declared.answers.Checked.{Checked}
use Rattle.rounds.specs.Rounds.{check_bytes}
use Rattle.rounds.proofs.fields.push_check.Goals as goal

pub returns-in-NoAnswer : goal.returns-in-NoAnswer
unfolding check_bytes
returns-in-NoAnswer c = c.push_word.ensures ∙ sym (ap (λ (k : Checked). writes (append 256 (check_bytes k)) c.args.line.now) c.in-NoAnswer.is)

pub returns-in-Wrong : goal.returns-in-Wrong
unfolding check_bytes
returns-in-Wrong c = c.push_word-in-Wrong.ensures ∙ sym (ap (λ (k : Checked). writes (append 256 (check_bytes k)) c.args.line.now) c.in-Wrong.is)

pub returns-in-Right : goal.returns-in-Right
unfolding check_bytes
returns-in-Right c = c.push_word-in-Right.ensures ∙ sym (ap (λ (k : Checked). writes (append 256 (check_bytes k)) c.args.line.now) c.in-Right.is)
