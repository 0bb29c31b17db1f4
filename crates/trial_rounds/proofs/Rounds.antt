-- The generator's states, and what the call answers. Assumes nothing.
use mathlib.Core.Path.{◌≡◌, refl, ap, ◌∙◌}
use Prim.Native.Nat.{ℕ, suc, ◌%◌}
use Rattle.trial_rounds.specs.Rounds.{next_state, state_after}

pub state-start : (start : ℕ) → start % 2147483648 ≡ state_after start 0
unfolding state_after
state-start start = refl

pub state-on : (start n : ℕ) {s r : ℕ} → s ≡ state_after start n → r ≡ next_state s → r ≡ state_after start (suc n)
unfolding state_after
state-on start n at e = e ∙ ap next_state at
