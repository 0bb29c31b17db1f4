-- `cells::places_of` meets its contract. The invariant: what is found so far are the places passed. Assumes nothing.
use mathlib.Core.Path.{◌≡◌}
use Prim.Native.Nat.{◌≤◌}
use Rattle.candidates.specs.Masks.{has, gather}
use Rattle.steps.specs.Boards.{at}
use Rattle.cells.proofs.places_of.Given as goal

abbrev pub invariant-loop-place : goal.invariant-loop-place
invariant-loop-place l = (l.place ≤ 9) × (l.found ≡ gather (λ i. has (at l.nine i) l.digit) l.place)
