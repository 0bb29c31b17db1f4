use mathlib.Core.Path.{refl, ap, ◌∙◌}
use mathlib.Core.Bool.{cond}
use Prim.Native.Nat.{ℕ}
use native.Mathlib.Omega.{arith}
use lib.Bits.{bit_and}
use lib.Dec.{eqb}
use lib.ListN.{replicate}
use Rattle.grid.proofs.Fills.{fill_start, fill_on, fill_end}
use Rattle.pair_cross.specs.code.Spots.{places_if}
use Rattle.pair_cross.proofs.spots.places_of_digits.Goals as goal

pub loop-digit-init : goal.loop-digit-init
unfolding places_if
loop-digit-init c = fill_start _ 16 (replicate 16 0) refl

pub loop-digit-preserved : goal.loop-digit-preserved
loop-digit-preserved c =
    let l = c.loop-digit in
    fill_on _ 16 l.digit l.set-items l.invariant (omega arith) (c.places_if.ensures ∙ ap (λ (x : ℕ). cond (eqb (bit_and c.args.held x) 0) 0 511) c.digit_mask.ensures)

pub returns : goal.returns
returns c = fill_end _ 16 c.loop-digit.digit c.loop-digit.set-items c.loop-digit.invariant c.loop-digit-test.false
