use mathlib.Core.Path.{◌≡◌, refl, sym, ap, ◌∙◌}
use mathlib.Core.Logic.{inl, inr}
use mathlib.Core.Bool.{true}
use native.Mathlib.Omega.{arith}
use borrow.Author.Tests.{eq-eqb}
use lib.Dec.{eqb, leb}
use Rattle.candidates.proofs.Tests.{either}
use Rattle.grid.proofs.Lists.{all-on}
use Rattle.steps.specs.Boards.{at}
use Rattle.techniques.specs.code.NakedPairs.{twin_of, no_twins}
use Rattle.techniques.proofs.NakedPairs.{no-place}
use Rattle.techniques.proofs.naked_pairs.no_twins.Goals.{else-nine-first-ne0-via-else-nine-first-ne0, else-nine-first-ne0-via-then-nine-first-ne0+else-is_some}
use Rattle.techniques.proofs.naked_pairs.no_twins.Invariants.{lone}
use Rattle.techniques.proofs.naked_pairs.no_twins.Goals as goal

pub loop-first-init : goal.loop-first-init
unfolding no_twins
loop-first-init c = (omega arith, refl)

pub loop-first-preserved : goal.loop-first-preserved
loop-first-preserved c =
    let nine = c.args.nine.now in
    let i = c.loop-first.first in
    let alone : lone nine i ≡ true =
    elim c.else-nine-first-ne0.branch [ else-nine-first-ne0-via-then-nine-first-ne0+else-is_some w ↦ (either (eqb (at nine i) 0) (leb 9 (twin_of nine i))).1 (inr (ap (leb 9) (sym w.twin_of.ensures.found ∙ no-place w.twin_of.result (sym w.is_some.ensures ∙ w.if-is_some.false)))) | else-nine-first-ne0-via-else-nine-first-ne0 w ↦ (either (eqb (at nine i) 0) (leb 9 (twin_of nine i))).1 (inl (eq-eqb (at nine i) 0 w.if-nine-first-ne0.false)) ] in
    (omega arith, sym (all-on (lone nine) 9 i (omega arith) alone) ∙ c.loop-first.invariant.1)
