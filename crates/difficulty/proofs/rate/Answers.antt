-- `difficulty::rate` meets its contract. Assumes nothing.
use mathlib.Core.Path.{◌≡◌, sym, ap, subst, ◌∙◌}
use mathlib.Core.List.{List}
use Prim.Native.Nat.{ℕ, ◌≤◌}
use Rattle.steps.specs.Boards.{fresh}
use Rattle.steps.specs.Difficulty.{summed, pass_counts}
use Rattle.difficulty.proofs.Figures.{counts-few}
use Rattle.difficulty.proofs.rate.Goals as goal

pub rating_of-requires : goal.rating_of-requires
rating_of-requires c =
    let counted : let g = c.args.givens.now in c.pass_counts.result ≡ pass_counts g (fresh g) = (
    c.pass_counts.ensures ∙ ap (pass_counts c.args.givens.now) c.requires.1
    ) in
    subst (λ (l : List ℕ). summed l ≤ 729) (sym (counted)) (counts-few c.args.givens.now c.requires.0)
