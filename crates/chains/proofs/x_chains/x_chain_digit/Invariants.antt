-- `chains::x_chains::x_chain_digit` meets its contract. The invariant: the starts that are left still lose what is missing. Assumes nothing.
use mathlib.Core.Path.{◌≡◌}
use lib.ListN.{drop}
use Rattle.steps.specs.Loops.{each}
use Rattle.steps.specs.XChains.{x_chain_digit}
use Rattle.chains.specs.code.XLinks.{pair_sums, lose_from}
use Rattle.chains.proofs.x_chains.x_chain_digit.Given as goal

abbrev pub invariant-loop-start : goal.invariant-loop-start
invariant-loop-start l = each (lose_from l.givens l.lost l.holders l.linked (pair_sums l.holders)) (drop l.start-index l.linked) l.masks ≡ x_chain_digit l.givens l.digit l.initial.masks
