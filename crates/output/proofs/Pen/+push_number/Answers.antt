-- `output::Pen::push_number` meets its contract: what stands before the last digit, and that digit. Assumes nothing.
use mathlib.Core.Path.{◌≡◌, sym, ap, subst, ◌∙◌}
use mathlib.Core.List.{List, [], ◌∷◌}
use Prim.Native.Nat.{ℕ, ◌/◌, ◌%◌}
use Rattle.std.proofs.Math.Nat.{mod-eq_of_lt}
use Rattle.output.specs.Decimals.{digit_byte, decimal}
use Rattle.output.specs.code.Tapes.{append}
use Rattle.output.specs.code.Pens.{writes}
use Rattle.output.proofs.Decimals.{decimal-one, decimal-more}
use Rattle.output.proofs.Pens.{writes-joined}
use Rattle.output.proofs.Pen.+push_number.Goals.{then-n-ge10, else-n-ge10}
use Rattle.output.proofs.Pen.+push_number.Goals as goal

pub returns : goal.returns
returns g t c =
    let n = c.args.n in
    let p = c.args.self.now in
    let digits : List ℕ → Type 0 = λ bs. c.push.new.self ≡ writes (append g.row.N bs) p in
    elim c.if-n-ge10.branch [ then-n-ge10 w ↦ subst digits (sym (decimal-more n w.if-n-ge10.true)) (writes-joined (decimal (n / 10)) (digit_byte (n % 10) ∷ []) p (w.self-is ∙ w.push_number.ensures) c.push.ensures) | else-n-ge10 w ↦ subst digits (ap (λ d. digit_byte d ∷ []) (mod-eq_of_lt w.if-n-ge10.false) ∙ sym (decimal-one n w.if-n-ge10.false)) (c.push.ensures ∙ ap (writes (append g.row.N (digit_byte (n % 10) ∷ []))) w.self-is) ]
