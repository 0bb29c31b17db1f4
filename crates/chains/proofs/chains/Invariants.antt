-- `chains::chains` meets its contract. The invariant: the digits that are left still make the pass. Assumes nothing.
use mathlib.Core.Path.{◌≡◌}
use Prim.Native.Nat.{◌-◌, ◌≤◌}
use Rattle.steps.specs.Chains.{chain_digit, chains}
use Rattle.steps.specs.Loops.{each, range}
use Rattle.chains.proofs.chains.Given as goal

abbrev pub invariant-loop-digit : goal.invariant-loop-digit
invariant-loop-digit l = (l.digit ≤ 9) × (each (chain_digit l.givens) (range (9 - l.digit) l.digit) l.masks ≡ chains l.givens l.initial.masks)
