-- `card::layout::refusal_lines` meets its contract. Assumes nothing.
use mathlib.Core.Path.{ap, subst, ◌∙◌}
use mathlib.Core.List.{[], ◌∷◌, ◌++◌}
use Prim.Native.Nat.{ℕ, ◌<◌, ◌^◌}
use native.Mathlib.Omega.{arith}
use lib.IntN.{ℤ}
use lib.Signed.{mag}
use mir.Facts.{to_z-of_z}
use mir.Syntax.{w64}
use Rattle.stops.specs.Stops.{row_of}
use Rattle.output.specs.Decimals.{decimal}
use Rattle.output.specs.code.Tapes.{append}
use Rattle.output.specs.code.Pens.{writes}
use Rattle.output.proofs.Pens.{writes-joined}
use Rattle.card.specs.Layout.{line_of, refused_label, signed, refusal_bytes}
use Rattle.card.proofs.Cards.{refusal-short}
use Rattle.card.proofs.Joins.{line-joined}
use Rattle.card.proofs.layout.refusal_lines.Goals as goal

pub returns : goal.returns
unfolding refusal_bytes
returns c =
    let stop = c.args.stop in
    let p = c.args.lines.now in
    let n = decimal (row_of stop).number in
    let d = signed (row_of stop).detail in
    let is = to_z-of_z {w = w64} (record { sfits = c.detail.type_inv }) ∙ c.detail.ensures in
    let few = refusal-short stop (omega (arith, c.number.type_inv, c.number.ensures)) (subst (λ (z : ℤ). mag z < 2 ^ 63) c.detail.ensures c.detail.type_inv) in (
      writes-joined (refused_label ++ n) (line_of (32 ∷ []) d) p
          (writes-joined refused_label n p c.push_word.ensures (c.push_number.ensures ∙ ap (λ (k : ℕ). writes (append 256 (decimal k)) c.push_word.new.self) c.number.ensures))
          (line-joined (32 ∷ []) d _ c.push.ensures (c.push_signed.ensures ∙ ap (λ (z : ℤ). writes (append 256 (signed z)) c.push.new.self) is) c.push-2.ensures),
      few,
    )
