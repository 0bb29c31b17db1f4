use mathlib.Core.Path.{◌≡◌, sym, ap, ◌∙◌}
use native.Mathlib.Omega.{arith}
use Rattle.grid.proofs.Lists.{turn-done, turns-over}
use Rattle.techniques.specs.code.NakedPairs.{unit_pairs, pair_masks}
use Rattle.techniques.proofs.NakedPairs.{unit-idle, pairs-are}
use Rattle.techniques.proofs.naked_pairs.naked_pairs.Goals.{then-not-no_twins, else-not-no_twins}
use Rattle.techniques.proofs.naked_pairs.naked_pairs.Goals as goal

pub loop-unit-init : goal.loop-unit-init
loop-unit-init c =
    let a = c.args in
    (omega arith, c.pair_masks-pairs.ensures, pairs-are a.givens.now a.masks.now)

pub loop-unit-preserved : goal.loop-unit-preserved
loop-unit-preserved c =
    let none = c.no_twins in
    let g = c.args.givens.now in
    let s = c.loop-unit in
    let w : (c.if-not-no_twins.pairs ≡ pair_masks g c.if-not-no_twins.masks) × (c.if-not-no_twins.masks ≡ unit_pairs g s.unit s.masks) =
    elim c.if-not-no_twins.branch [
      | then-not-no_twins w ↦ (w.pairs-is ∙ w.pair_masks-pairs-then-not-no_twins.ensures ∙ ap (pair_masks g) (sym w.masks-is), w.masks-is ∙ w.unit_pairs.ensures)
      | else-not-no_twins w ↦ (
        w.pairs-is ∙ s.invariant.1 ∙ ap (pair_masks g) (sym w.masks-is),
        w.masks-is ∙ unit-idle g s.masks s.unit (omega arith) c.all_masks-nine.ensures s.invariant.1 (sym none.ensures ∙ w.if-not-no_twins.false),
      )
    ] in
    (omega arith, w.0, turn-done (unit_pairs g) 27 s.unit (omega arith) w.1 s.invariant.2)

pub returns : goal.returns
returns c =
    turns-over (unit_pairs c.args.givens.now) 27 c.loop-unit.unit c.loop-unit-test.false c.loop-unit.invariant.2
