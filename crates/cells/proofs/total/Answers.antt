use Prim.Native.Nat.{◌≤◌}
use native.Mathlib.Omega.{arith}
use mir.Syntax.{w16}
use mir.Val.{Fits}
use borrow.Author.Rules.{rules}
use lib.Count.{ones-le}
use lib.ListN.{get_or}
use Rattle.cells.proofs.Whole.{total-on, total-end}
use Rattle.cells.proofs.total.Goals as goal

pub loop-mask-preserved : goal.loop-mask-preserved
loop-mask-preserved c =
    let few : c.digit_count.result ≤ 16 = (
    let small : Fits w16 (get_or c.args.masks c.loop-mask.mask-index 0) = search rules in
    omega (arith, c.digit_count.ensures, ones-le 16 _ small.fits)
    ) in
    let inv = c.loop-mask.invariant in
    let on = total-on c.args.masks c.loop-mask.mask-index (omega arith) in
    (inv.0, omega arith, omega (arith, few), omega (arith, c.digit_count.ensures, on, inv.3))

pub returns : goal.returns
returns c = omega (arith, total-end c.args.masks c.loop-mask.mask-index (omega arith), c.loop-mask.invariant.3)
