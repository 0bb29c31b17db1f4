use mathlib.Core.Path.{◌≡◌, ap, ◌∙◌}
use native.Mathlib.Omega.{arith}
use Rattle.printing.specs.code.Sums.{sum_of}
use Rattle.printing.proofs.mask_sum.Goals as goal

pub returns : goal.returns
returns c =
    let l = c.loop-mask in
    let all : l.mask-index ≡ 81 = omega arith in
    l.invariant.1 ∙ ap (sum_of c.args.masks.now) all
