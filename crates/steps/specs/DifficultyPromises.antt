-- What document 02, F-14 promises of the difficulty figure, over the definitions; proofs/Difficulty.antt shows it.
use Rattle.std.specs.Prelude.{◌≡◌, List, map, ℕ, ◌+◌, ◌*◌, ◌<◌}
use Rattle.stops.specs.Answer.{gives}
use Rattle.steps.specs.Boards.{Board}
use Rattle.steps.specs.Difficulty.{summed, pass_counts, removed_by_steps, Figure, difficulty_of}
use Rattle.steps.specs.Passes.{kinds, settle, removed_by}
use Rattle.steps.specs.StepLists.{settling_steps}

pub record Difficulties : Type 0 where
  -- "The counts add up to the removed total."
  pub sum : (g m : List ℕ) → summed (pass_counts g m) ≡ removed_by m (settle g m).left
  -- they are what the steps of settling's own list remove, kind by kind, both Cross kinds together
  pub steps : (g m : List ℕ) → pass_counts g m ≡ map (λ k. removed_by_steps g k (settling_steps g m) m) kinds
  -- "a whole quotient and the exact remainder, which is below that number of cells"
  pub exact : (b : Board) (f : Figure) → difficulty_of b ≡ gives f → (f.points ≡ f.quotient * f.cells + f.remainder) × (f.remainder < f.cells)
