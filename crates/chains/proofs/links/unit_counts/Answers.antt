use mathlib.Core.Path.{refl, ap, ◌∙◌}
use mathlib.Core.List.{List}
use Prim.Native.Nat.{ℕ}
use native.Mathlib.Omega.{arith}
use lib.ListN.{length, replicate}
use Rattle.grid.proofs.Fills.{fill_start, fill_on, fill_end}
use Rattle.chains.specs.code.Links.{unit_counts}
use Rattle.chains.proofs.links.unit_counts.Goals as goal

pub loop-unit-init : goal.loop-unit-init
unfolding unit_counts
loop-unit-init c = fill_start _ 27 (replicate 27 0) refl

pub loop-unit-preserved : goal.loop-unit-preserved
loop-unit-preserved c =
    fill_on _ 27 c.loop-unit.unit c.loop-unit.counts c.loop-unit.invariant (omega arith) (c.len.ensures.length ∙ ap (λ (l : List ℕ). length l) c.holders_in-found.ensures)

pub returns : goal.returns
returns c = fill_end _ 27 c.loop-unit.unit c.loop-unit.counts c.loop-unit.invariant c.loop-unit-test.false
