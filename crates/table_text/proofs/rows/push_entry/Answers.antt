-- `table_text::rows::push_entry` meets its contract. Assumes nothing.
use mathlib.Core.Path.{sym, ap, ◌∙◌}
use mathlib.Core.Bool.{Bool}
use mathlib.Core.List.{[], ◌∷◌}
use Prim.Native.Nat.{ℕ}
use Rattle.output.specs.Decimals.{decimal}
use Rattle.output.specs.code.Tapes.{append}
use Rattle.output.specs.code.Pens.{writes}
use Rattle.output.proofs.Pens.{writes-joined}
use Rattle.table_text.specs.code.Pushes.{entry}
use Rattle.table_text.proofs.rows.push_entry.Goals.{then-not-first, else-not-first}
use Rattle.table_text.proofs.rows.push_entry.Goals as goal

pub returns : goal.returns
unfolding entry
returns c =
    let n = c.args.n in
    let p = c.args.text.now in
    let number = c.push_number.ensures ∙ ap (λ (n : ℕ). writes (append 7515 (decimal n)) c.if-not-first.text) c.from.ensures in
    elim c.if-not-first.branch [ then-not-first w ↦ writes-joined (44 ∷ 32 ∷ []) (decimal n) p (w.text-is ∙ w.push_word.ensures) number ∙ ap (λ (first : Bool). writes (append 7515 (entry first n)) p) (sym w.if-not-first.true) | else-not-first w ↦ rw (w.if-not-first.false, ← w.text-is) number ]
