-- `pair_cross::spots::open_places` meets its contract. The invariant: the lines that are left still make the whole. Assumes nothing.
use mathlib.Core.Path.{◌≡◌}
use Prim.Native.Nat.{◌+◌}
use Rattle.grid.proofs.Fills.{filled}
use Rattle.pair_cross.specs.code.Spots.{spots_of, open_places}
use Rattle.pair_cross.proofs.spots.open_places.Given as goal

abbrev pub invariant-loop-line : goal.invariant-loop-line
invariant-loop-line l = filled (λ k. spots_of l.doors (l.first + k) 1) 9 l.line l.places-items ≡ open_places l.doors l.first
