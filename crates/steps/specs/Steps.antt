-- A step: one instance of a wide pass, as a condition and an effect. "Conditions read all 81 masks, clue cells too; only open
-- cells lose digits; each instance is tested on the masks of that moment."
use Rattle.std.specs.Prelude.{Bool, cond, List, ℕ, eqb, set}
use Rattle.std.specs.Int.Bits.{bit_and}
use Rattle.candidates.specs.Masks.{minus}
use Rattle.steps.specs.Boards.{at}
use Rattle.steps.specs.Loops.{each, all}

-- The condition: no cell of `reads` holds a digit of its mask `bars`. The effect: each open cell of `hits` loses the digits of its mask `loses`.
pub record Step : Type 0 where
  pub reads : List ℕ
  pub bars : ℕ → ℕ
  pub hits : List ℕ
  pub loses : ℕ → ℕ

-- the cell holds no digit of k
abbrev pub lacks : List ℕ → ℕ → ℕ → Bool
lacks m c k = eqb (bit_and (at m c) k) 0

abbrev pub applies : Step → List ℕ → Bool
applies s m = all (λ c. lacks m c (s.bars c)) s.reads

-- Which cells are open is a parameter here, `free`.

-- the cell loses the digits of k if it is open
abbrev pub lose_at : (ℕ → Bool) → ℕ → ℕ → List ℕ → List ℕ
lose_at free c k m = cond (free c) (set m c (minus (at m c) k)) m

-- each cell of the list loses the digits of its mask
abbrev pub lose_all : (ℕ → Bool) → List ℕ → (ℕ → ℕ) → List ℕ → List ℕ
lose_all free cs k m = each (λ c. lose_at free c (k c)) cs m

-- the masks after the step
unfoldable pub step_taken : (ℕ → Bool) → Step → List ℕ → List ℕ
step_taken free s m = cond (applies s m) (lose_all free s.hits s.loses m) m
