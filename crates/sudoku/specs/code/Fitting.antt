-- The value of an answer fits an `i64`.
use Rattle.std.specs.Prelude.{ℤ, pos}
use Rattle.std.specs.Int.{w64}
use Rattle.std.proofs.Common.{SFits}
use Rattle.stops.specs.Answer.{Answer, gives, stop}
use Rattle.steps.specs.Difficulty.{Figure}

abbrev pub Fitting : Answer ℤ → Type 0
Fitting (gives z) = SFits w64 z
Fitting (stop s) = Unit {0}

-- a difficulty figure
abbrev pub FigureFits : Answer Figure → Type 0
FigureFits (gives f) = SFits w64 (pos f.cells) × SFits w64 (pos f.quotient) × SFits w64 (pos f.remainder)
FigureFits (stop s) = Unit {0}
