-- What a call answers: its value, or a stop. What the engine returns is a `Result` of the value and the stop; `answer_of` is that as an answer, and the contracts speak through it.
use Rattle.std.specs.Prelude.{ℕ, ℤ, pos, Result, Ok, Err, Some, None}
use Rattle.std.specs.Prelude as rust
use Rattle.std.proofs.Math.Option.{Option, none, some}
use Rattle.stops.specs.declared.Stop.{Stop}

pub data Answer (A : Type 0) : Type 0 where
  gives : A → Answer A
  stop : Stop → Answer A

-- the value, changed
abbrev pub map : {A B : Type 0} → (A → B) → Answer A → Answer B
map f (gives a) = gives (f a)
map f (stop s) = stop s

-- one call after the other: the first stop ends both
abbrev pub then : {A B : Type 0} → Answer A → (A → Answer B) → Answer B
then (gives a) f = f a
then (stop s) f = stop s

-- the value; z beside a stop
abbrev pub value_or : {A : Type 0} → A → Answer A → A
value_or z (gives a) = a
value_or z (stop s) = z

-- the value of a call that is checked first
abbrev pub passing : {A : Type 0} → Answer (Unit {0}) → A → Answer A
passing check a = map (λ _. a) check

-- what a search found is a stop with its place
abbrev pub stop_at : (ℤ → Stop) → Option ℕ → Answer (Unit {0})
stop_at case none = gives tt
stop_at case (some n) = stop (case (pos n))

-- what a call of the engine returns, as an answer
abbrev pub answer_of : {A : Type 0} → Result A Stop → Answer A
answer_of (Ok a) = gives a
answer_of (Err s) = stop s

-- what a search of the engine returns, as an option of the definitions
abbrev pub found_of : {A : Type 0} → rust.Option A → Option A
found_of (Some a) = some a
found_of None = none
