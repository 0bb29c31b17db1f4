-- `card::lines::push_signed` meets its contract: the sign, and then the size. Assumes nothing.
use mathlib.Core.Path.{◌≡◌, ap, ◌∙◌}
use mathlib.Core.List.{List, [], ◌∷◌}
use Prim.Native.Nat.{ℕ}
use lib.IntN.{nat_abs}
use mir.Facts.{to_z-of_z}
use mir.Syntax.{w64}
use Rattle.output.specs.Decimals.{decimal}
use Rattle.output.specs.code.Tapes.{append}
use Rattle.output.specs.code.Pens.{writes}
use Rattle.output.proofs.Pens.{writes-joined}
use Rattle.card.proofs.Signs.{negative, positive}
use Rattle.card.proofs.lines.push_signed.Goals.{then-z-lt0, else-z-lt0}
use Rattle.card.proofs.lines.push_signed.Goals as goal

pub returns : goal.returns
returns c =
    let z = c.args.z in
    let p = c.args.lines.now in
    let is = to_z-of_z {w = w64} c.ranges.z in
    let size : c.unsigned_abs.result ≡ nat_abs z = c.unsigned_abs.ensures.value ∙ ap nat_abs is in
    let number = c.push_number.ensures ∙ ap (λ (n : ℕ). writes (append 256 (decimal n)) c.if-z-lt0.lines) size in
    elim c.if-z-lt0.branch [ then-z-lt0 w ↦ writes-joined (45 ∷ []) (decimal (nat_abs z)) p (w.lines-is ∙ w.push.ensures) number ∙ ap (λ (bs : List ℕ). writes (append 256 bs) p) (negative z (rw is at w.if-z-lt0.true)) | else-z-lt0 w ↦ number ∙ ap (writes (append 256 (decimal (nat_abs z)))) w.lines-is ∙ ap (λ (bs : List ℕ). writes (append 256 bs) p) (positive z (rw is at w.if-z-lt0.false)) ]
