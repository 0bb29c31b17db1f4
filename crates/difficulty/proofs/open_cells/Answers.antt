-- `difficulty::open_cells` meets its contract. Assumes nothing.
use mathlib.Core.Path.{◌≡◌, ◌∙◌}
use borrow.Author.Rules.{rules}
use lib.Dec.{eqb}
use Rattle.std.specs.List.{count_by}
use Rattle.difficulty.proofs.Figures.{open-counted}
use Rattle.difficulty.proofs.open_cells.Goals as goal

pub returns : goal.returns
returns c =
    let counted : c.count.result ≡ count_by (λ x. eqb x 0) c.args.givens.now = search rules in
    counted ∙ open-counted c.args.givens.now c.told-givens
