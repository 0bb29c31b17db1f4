-- `difficulty::figure_of` meets its contract. Assumes nothing.
use mathlib.Core.Path.{refl}
use Rattle.steps.specs.Difficulty.{figure_of}
use Rattle.difficulty.proofs.figure_of.Goals as goal

pub returns : goal.returns
unfolding figure_of
returns c = refl
