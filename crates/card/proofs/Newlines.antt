-- The length of a text without one final newline or another byte is no more than the text's. Assumes nothing.
use mathlib.Core.List.{List}
use Prim.Native.Nat.{ℕ, ◌-◌, ◌≤◌}
use native.Mathlib.Omega.{arith}
use lib.Dec.{eqb}
use lib.ListN.{length, get_or}
use Rattle.candidates.proofs.Tests.{by-test}
use Rattle.card.specs.Cards.{length_without}

pub text-most : (b : ℕ) (input : List ℕ) → length_without b input ≤ length input
text-most b input = by-test (λ (n : ℕ). n ≤ length input) (eqb (get_or input (length input - 1) 0) b) (length input - 1) (length input) (λ t. omega arith) (λ t. omega arith)
