-- What document 02, F-10 promises of step lists, over the definitions; proofs/StepPromises.antt shows it.
use Rattle.std.specs.Prelude.{◌≡◌, ◌≢◌, ◌↔◌, true, ℕ, ◌≤◌, ◌<◌, ℤ, length, get_or}
use mathlib.Core.List.{List, [], ◌∷◌, Memᴰ}
use Rattle.std.proofs.Math.Option.{Option, some}
use Rattle.stops.specs.Answer.{gives}
use Rattle.grid.specs.Fillings.{verified}
use Rattle.steps.specs.Boards.{Board, givens, fresh}
use Rattle.steps.specs.Calls.{Admitted, check_of, settling_call, answer, left, opened_with}
use Rattle.steps.specs.Fillings.{Keeps, InMasks}
use Rattle.steps.specs.Instances.{Instance}
use Rattle.steps.specs.Passes.{Kind, instances, instance_taken, settle, removed_by}
use Rattle.steps.specs.StepLists.{step_bytes, step_named, steps_of, follow, check_steps_of, settling_steps, bytes_of}
use Rattle.steps.specs.Wide.{Condition}

-- an instance of one of the wide passes
pub record Listed (x : Instance) : Type 0 where
  pub kind : Kind
  pub listed : Memᴰ x (instances kind)

-- "each step's condition holds at its turn and it removes something", from the masks m to the masks o; the conditions are those in words of Wide
pub data Follows (g : List ℕ) : List ℕ → List (Option Instance) → List ℕ → Type 0 where
  done : {m : List ℕ} → Follows g m [] m
  next : {m o : List ℕ} {ss : List (Option Instance)} (x : Instance) → Listed x → Condition m x → instance_taken g x m ≢ m → Follows g (instance_taken g x m) ss o → Follows g m (some x ∷ ss) o

pub record StepLists : Type 0 where
  -- bytes name an instance exactly if they are its bytes; those are six, each below 256
  pub names : (bs : List ℕ) (x : Instance) → (step_named bs ≡ some x) ↔ (Listed x × (step_bytes x ≡ bs))
  pub six : (x : Instance) → length (step_bytes x) ≡ 6
  pub bytes : (x : Instance) → Listed x → (i : ℕ) → get_or (step_bytes x) i 0 < 256
  -- "The list is accepted exactly if each step's condition holds at its turn and it removes something"
  pub accepted : (g m o bs : List ℕ) → (follow g 0 (steps_of bs) m ≡ gives o) ↔ Follows g m (steps_of bs) o
  -- the empty list gives the fresh board
  pub empty : (b : Board) → check_of b ≡ gives tt → check_steps_of b [] ≡ gives (opened_with b.clues b.entries)
  -- no more steps than candidates that settling removed, so at most 729
  pub few : (b : Board) → Admitted b → length (settling_steps (givens b) b.masks) ≤ removed_by b.masks (settle (givens b) b.masks).left
  pub most : (b : Board) → Admitted b → length (settling_steps (givens b) b.masks) ≤ 729
  -- "Where settling began on the fresh board, that list is always accepted and gives the settled board."
  pub settling : (b : Board) → Admitted b → b.masks ≡ fresh (givens b) → check_steps_of b (bytes_of (settling_steps (givens b) b.masks)) ≡ gives (left b (answer settling_call b))
  -- an accepted list keeps every correct filling that keeps clues and entries, as demand 3 says of lists of calls
  pub fillings : (b o : Board) (bs : List ℕ) → Admitted b → check_steps_of b bs ≡ gives o → (f : List ℤ) → length f ≡ 81 → verified f ≡ true → InMasks o.masks f ↔ Keeps o f
