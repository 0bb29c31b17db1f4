-- `chains::links::Holders::weak_links` meets its contract. Assumes nothing.
use mathlib.Core.Path.{ap, ◌∙◌}
use mathlib.Core.List.{List}
use Prim.Native.Nat.{ℕ}
use Rattle.grid.specs.Cells.{sees}
use Rattle.steps.specs.Loops.{select}
use Rattle.chains.specs.code.Links.{weak_in}
use Rattle.chains.proofs.links.Holders.weak_links.Goals as goal

pub returns : goal.returns
unfolding weak_in
returns c = c.holders_in.ensures ∙ ap (λ (l : List ℕ). select (sees c.args.cell) l) c.self.view_is
