-- `printing::mask_sum` meets its contract. Assumes nothing.
use mathlib.Core.Path.{◌≡◌}
use Prim.Native.Nat.{◌≤◌}
use Rattle.printing.specs.code.Sums.{sum_of}
use Rattle.printing.proofs.mask_sum.Given as goal

abbrev pub invariant-loop-mask : goal.invariant-loop-mask
invariant-loop-mask l = (l.mask-index ≤ 81) × (l.sum ≡ sum_of l.fn.masks l.mask-index)
