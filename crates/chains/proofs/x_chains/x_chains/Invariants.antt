-- `chains::x_chains::x_chains` meets its contract. The invariant: the digits that are left still make the pass. Assumes nothing.
use mathlib.Core.Path.{◌≡◌}
use Prim.Native.Nat.{◌-◌, ◌≤◌}
use Rattle.steps.specs.Loops.{each, range}
use Rattle.steps.specs.XChains.{x_chain_digit, x_chains}
use Rattle.chains.proofs.x_chains.x_chains.Given as goal

abbrev pub invariant-loop-digit : goal.invariant-loop-digit
invariant-loop-digit l = (l.digit ≤ 9) × (each (x_chain_digit l.givens) (range (9 - l.digit) l.digit) l.masks ≡ x_chains l.givens l.initial.masks)
