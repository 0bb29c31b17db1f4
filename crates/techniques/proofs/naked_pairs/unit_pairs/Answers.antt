use mathlib.Core.Path.{◌≡◌, refl, sym, ap, ◌∙◌}
use mathlib.Core.List.{List}
use Prim.Native.Nat.{ℕ}
use native.Mathlib.Omega.{arith}
use Rattle.grid.proofs.Lists.{turn-done, turns-over}
use Rattle.cells.specs.code.Places.{unit_masks}
use Rattle.techniques.specs.code.NakedPairs.{unit_pairs, place_of}
use Rattle.techniques.proofs.NakedPairs.{pair_turn_lem, pair-none}
use Rattle.techniques.proofs.naked_pairs.unit_pairs.Invariants.{turn}
use Rattle.techniques.proofs.naked_pairs.unit_pairs.Goals.{in-Some, in_default}
use Rattle.techniques.proofs.naked_pairs.unit_pairs.Goals as goal

pub loop-first-init : goal.loop-first-init
unfolding unit_pairs
loop-first-init c = (omega arith, c.unit_masks-nine.ensures, refl)

pub loop-first-preserved : goal.loop-first-preserved
loop-first-preserved c =
    let a = c.args in
    let g = a.givens.now in
    let u = a.unit in
    let s = c.loop-first in
    let pair = c.pair_of in
    let w : (c.match-pair_of.nine ≡ unit_masks g c.match-pair_of.masks u) × (c.match-pair_of.masks ≡ turn g u s.first s.masks) =
    elim c.match-pair_of.branch [
      | in-Some w ↦ (
        w.nine-is ∙ w.unit_masks-nine-in-Some.ensures ∙ ap (λ (m : List ℕ). unit_masks g m u) (sym w.masks-is),
        w.masks-is ∙ w.lose_places.ensures.masks_after ∙ pair_turn_lem g s.masks s.nine u s.first (omega arith) s.invariant.1 (ap place_of (sym w.in-Some.is) ∙ pair.ensures.found) (w.in-Some.ensures.below) w.all_but.ensures,
      )
      | in_default w ↦ (w.nine-is ∙ s.invariant.1 ∙ ap (λ (m : List ℕ). unit_masks g m u) (sym w.masks-is), w.masks-is ∙ pair-none g s.masks s.nine u s.first (omega arith) s.invariant.1 pair.ensures.found (omega (arith, ap place_of w.in_default.is)))
    ] in
    (omega arith, w.0, turn-done (turn g u) 9 s.first (omega arith) w.1 s.invariant.2)

pub returns : goal.returns
returns c =
    let a = c.args in
    turns-over (turn a.givens.now a.unit) 9 c.loop-first.first c.loop-first-test.false c.loop-first.invariant.2
