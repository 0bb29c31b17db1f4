-- `chains::search::build_chain` meets its contract: the one proof of its cycle of calls, itself. The measure is 6 less the depth, which is the
-- path's length. The loop's invariant: the links that are left still decide. Assumes nothing.
use mathlib.Core.Path.{◌≡◌}
use mathlib.Core.Bool.{Bool, not}
use mathlib.Core.List.{List, reverse}
use mathlib.Core.Option.{Option}
use Prim.Native.Nat.{ℕ, ◌-◌}
use lib.ListN.{length, drop}
use Rattle.steps.specs.Chains.{first_some}
use Rattle.chains.specs.code.Links.{enter_in}
use Rattle.chains.proofs.search.+build_chain.Given as goal

abbrev pub decreases-build_chain : goal.decreases-build_chain
decreases-build_chain l = 6 - length l.path.now

-- the search one level deeper
abbrev pub deeper : List ℕ → ℕ → Bool → List ℕ → List ℕ → ℕ → Option ℕ
deeper holders start weak path longer = enter_in holders (6 - length path) start (not weak) (reverse longer)

abbrev pub invariant-loop-next : goal.invariant-loop-next
invariant-loop-next l = first_some (deeper l.holders l.start l.weak l.path l.longer) (drop l.next-index l.next-items) ≡ first_some (deeper l.holders l.start l.weak l.path l.longer) l.next-items
