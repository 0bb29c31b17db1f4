-- `card::write_refusal` meets its contract. Assumes nothing.
use mathlib.Core.Path.{sym, ap, ◌∙◌}
use Prim.Native.Nat.{ℕ}
use native.Mathlib.Omega.{arith}
use lib.ListN.{length}
use Rattle.card.specs.Layout.{refusal_bytes}
use Rattle.output.specs.Lent.{over}
use Rattle.output.proofs.Pens.{written}
use Rattle.std.proofs.Common.{rules}
use Rattle.stops.specs.Answer.{answer_of}
use Rattle.stops.specs.declared.Stop.{Stop}
use Rattle.std.specs.Prelude.{Result}
use Rattle.card.specs.Cards.{refusal_line}
use Rattle.card.proofs.write_refusal.Goals as goal

pub returns-in-Err : goal.returns-in-Err
returns-in-Err c =
    let lent = c.args.out.now in
    let e = sym c.in-Err.is in
    let bytes = refusal_bytes c.in-Err.stop in
    let filled = written bytes c.new-lines.ensures c.refusal_lines.ensures.0 c.refusal_lines.ensures.1 in
    let over_them = filled.1 ∙ ap (λ (q : Result ℕ Stop). over (refusal_line (answer_of q)) lent) e in (
      filled.2 ∙ ap (λ (q : Result ℕ Stop). length (refusal_line (answer_of q))) e,
      search rules,
      omega (arith, filled.2, c.refusal_lines.ensures.1),
    )
