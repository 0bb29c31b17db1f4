use mathlib.Core.Path.{refl, ap, ◌∙◌}
use mathlib.Core.List.{List}
use Prim.Native.Nat.{ℕ}
use native.Mathlib.Omega.{arith}
use lib.ListN.{replicate}
use Rattle.grid.proofs.Fills.{fill_start, fill_on, fill_end}
use Rattle.cells.specs.code.Places.{spots_in, line_spots}
use Rattle.cells.proofs.HeldPlaces.{spots-past}
use Rattle.cells.proofs.line_spots.Goals as goal

pub returns-then-first-ge27 : goal.returns-then-first-ge27
returns-then-first-ge27 c =
    let a = c.args in
    spots-past a.givens.now a.masks.now a.first a.digit c.if-first-ge27.true

pub loop-line-init : goal.loop-line-init
unfolding line_spots
loop-line-init c = fill_start _ 9 (replicate 9 0) refl

pub loop-line-preserved : goal.loop-line-preserved
loop-line-preserved c =
    fill_on _ 9 c.loop-line.line c.loop-line.list c.loop-line.invariant (omega arith)
    (c.places_of.ensures ∙ ap (λ (nine : List ℕ). spots_in nine c.args.digit) c.unit_masks-nine.ensures)

pub returns : goal.returns
returns c = fill_end _ 9 c.loop-line.line c.loop-line.list c.loop-line.invariant c.loop-line-test.false
