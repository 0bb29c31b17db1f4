-- What the parts of an answer have to fit.
use Rattle.std.specs.Prelude.{pos}
use Rattle.std.specs.Int.{w64}
use Rattle.std.proofs.Common.{SFits}
use Rattle.stops.specs.Answer.{Answer, gives, stop}
use Rattle.calls.specs.Replays.{Run, ran, no_step}

-- the index of a byte that is no step number fits an `i64`
abbrev pub RunFits : Answer Run → Type 0
RunFits (gives (ran b)) = Unit {0}
RunFits (gives (no_step i)) = SFits w64 (pos i)
RunFits (stop s) = Unit {0}
