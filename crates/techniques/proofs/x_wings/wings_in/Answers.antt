use mathlib.Core.Path.{◌≡◌, sym, ap, ◌∙◌}
use mathlib.Core.List.{List}
use Prim.Native.Nat.{ℕ}
use native.Mathlib.Omega.{arith}
use Rattle.candidates.specs.Masks.{has}
use Rattle.grid.proofs.Lists.{turn-done, turns-over}
use Rattle.steps.specs.Boards.{at}
use Rattle.techniques.specs.code.XWings.{wing_digit}
use Rattle.techniques.proofs.WingsDue.{digit-alike, digit-due, digit-idle}
use Rattle.techniques.proofs.x_wings.wings_in.Goals.{else-has_digit, then-has_digit}
use Rattle.techniques.proofs.x_wings.wings_in.Goals as goal

pub loop-digit-preserved : goal.loop-digit-preserved
loop-digit-preserved c =
    let turned : c.if-has_digit.masks ≡ wing_digit c.args.givens.now c.args.lines c.loop-digit.digit c.loop-digit.masks = (
    let a = c.args in
    let d = c.loop-digit.digit in
    let same = c.loop-digit.invariant.2 d (omega arith) in
    elim c.if-has_digit.branch [ then-has_digit w ↦ w.masks-is ∙ w.wing_digit.ensures ∙ digit-due a.givens.now c.loop-digit.masks a.masks.now a.lines d same c.twice_sets-sets.ensures | else-has_digit w ↦ w.masks-is ∙ digit-idle a.givens.now c.loop-digit.masks a.masks.now a.lines d same c.twice_sets-sets.ensures c.shared-due.ensures (sym c.has_digit.ensures ∙ w.if-has_digit.false) ]
    ) in
    let a = c.args in
    let d = c.loop-digit.digit in
    let is = turned in (
      omega arith,
      turn-done (wing_digit a.givens.now a.lines) 9 d (omega arith) is c.loop-digit.invariant.1,
      λ e h x. ap (λ (n : List ℕ). has (at n x) e) is ∙ digit-alike a.givens.now d e (omega arith) (λ q. omega arith) a.lines c.loop-digit.masks x ∙ c.loop-digit.invariant.2 e (omega arith) x,
    )

pub returns : goal.returns
returns c =
    let a = c.args in
    turns-over (wing_digit a.givens.now a.lines) 9 c.loop-digit.digit c.loop-digit-test.false c.loop-digit.invariant.1
