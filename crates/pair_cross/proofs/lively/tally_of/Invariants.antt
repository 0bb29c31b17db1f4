-- `pair_cross::lively::tally_of` meets its contract. The invariant: the lines that are left still make the whole. Assumes nothing.
use mathlib.Core.Path.{◌≡◌}
use mathlib.Core.List.{List}
use Prim.Native.Nat.{ℕ, ◌-◌}
use Rattle.steps.specs.Boards.{at}
use Rattle.steps.specs.Loops.{each, range}
use Rattle.pair_cross.specs.code.Lively.{tallied, tally_of}
use Rattle.pair_cross.specs.declared.lively.Tally.{Tally}
use Rattle.pair_cross.proofs.lively.tally_of.Given as goal

abbrev pub turn : List ℕ → ℕ → Tally → Tally
turn nine i = tallied (at nine i)

abbrev pub invariant-loop-held : goal.invariant-loop-held
invariant-loop-held l = each (turn l.nine) (range (9 - l.held-index) l.held-index) (record { once = l.once; twice = l.twice; thrice = l.thrice }) ≡ tally_of (at l.nine)
