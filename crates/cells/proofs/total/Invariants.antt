-- `cells::total` meets its contract. The invariant: what is counted and what is left are all candidates. Assumes nothing.
use mathlib.Core.Path.{◌≡◌}
use Prim.Native.Nat.{◌+◌, ◌*◌, ◌≤◌}
use lib.ListN.{length, drop}
use Rattle.steps.specs.Boards.{total}
use Rattle.cells.proofs.total.Given as goal

abbrev pub invariant-loop-mask : goal.invariant-loop-mask
invariant-loop-mask l = (length l.fn.masks ≡ 81) × (l.mask-index ≤ 81) × (l.sum ≤ 16 * l.mask-index) × (l.sum + total (drop l.mask-index l.fn.masks) ≡ total l.fn.masks)
