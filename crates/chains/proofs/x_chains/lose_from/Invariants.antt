-- `chains::x_chains::lose_from` meets its contract. The invariant: the holders that are left still lose what is missing. Assumes nothing.
use mathlib.Core.Path.{◌≡◌}
use lib.ListN.{drop}
use Rattle.steps.specs.Loops.{each}
use Rattle.chains.specs.code.XLinks.{ends_of, lose_caught, lose_from}
use Rattle.chains.proofs.x_chains.lose_from.Given as goal

abbrev pub invariant-loop-cell : goal.invariant-loop-cell
invariant-loop-cell l =
    each (lose_caught l.givens l.lost l.links.linked l.start (ends_of l.links.linked l.links.sums l.start)) (drop l.cell-index l.holders) l.masks
    ≡ lose_from l.givens l.lost l.holders l.links.linked l.links.sums l.start l.initial.masks
