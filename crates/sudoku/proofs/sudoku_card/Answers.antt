-- The card's answer, coded; the card stands as it was written.
use Rattle.sudoku.proofs.Fitting.{card-fits}
use mathlib.Core.Path.{sym, subst}
use Prim.Native.Nat.{ℕ}
use lib.IntN.{pos}
use Rattle.stops.specs.Answer.{Answer, map}
use Rattle.sudoku.specs.code.Fitting.{Fitting}
use Rattle.sudoku.proofs.sudoku_card.Goals as goal

pub of_counted-requires : goal.of_counted-requires
of_counted-requires c = subst (λ (x : Answer ℕ). Fitting (map pos x)) (sym c.write_card.ensures.0) (card-fits c.args.input.now)
