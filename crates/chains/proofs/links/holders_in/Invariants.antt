-- `chains::links::holders_in` meets its contract. The invariant: the list and what the holders that are left add to it are the whole selection. Assumes nothing.
use mathlib.Core.Path.{◌≡◌}
use mathlib.Core.List.{◌++◌}
use lib.ListN.{drop}
use Rattle.steps.specs.Loops.{select}
use Rattle.grid.specs.code.Scopes.{in_scope}
use Rattle.chains.proofs.links.holders_in.Given as goal

abbrev pub invariant-loop-cell : goal.invariant-loop-cell
invariant-loop-cell l = l.list ++ select (in_scope l.scope) (drop l.cell-index l.cell-items) ≡ select (in_scope l.scope) l.cell-items
