-- Settling's steps: at most 729, and as a log that was empty holds them. Assumes nothing.
use mathlib.Core.Path.{◌≡◌, refl, ap, ap₂, ◌∙◌}
use mathlib.Core.List.{List, []}
use Prim.Native.Nat.{ℕ, ◌≤◌}
use native.Mathlib.Omega.{arith}
use lib.ListN.{length, replicate}
use Rattle.stops.specs.Answer.{Answer, gives, stop, passing, map, value_or}
use Rattle.steps.specs.Boards.{Board, givens, with_masks}
use Rattle.steps.specs.Calls.{Outcome, check_of, settling_call, answer, outcome, left}
use Rattle.steps.specs.Instances.{Instance}
use Rattle.steps.specs.Loops.{each}
use Rattle.steps.specs.StepLists.{step_bytes, settling_instances, settling_steps}
use Rattle.steps.specs.code.Logs.{noted, log_after}
use Rattle.steps.proofs.LogBytes.{log-empty, log-held, held-count, held_bytes}
use Rattle.steps.proofs.StepPromises.{step-lists}
use Rattle.cells.specs.code.Notes.{steps_held}
use Rattle.cells.specs.declared.notes.Steps.{Steps}
use Rattle.passes.specs.Settlings.{steps_done, in_room}
use Rattle.passes.specs.code.Handed.{masks_left, log_left}

-- the value of a list of steps
abbrev pub value_of : List Instance → Steps
value_of xs = record { bytes = in_room xs; count = length xs }

pub log-value : (xs : List Instance) → length xs ≤ 729 → steps_held (each (λ x. noted (step_bytes x)) xs (replicate 4376 0)) ≡ value_of xs
unfolding steps_held in_room
log-value xs h =
    let whole : List ℕ → ℕ → Steps = λ bytes count. record { bytes = bytes; count = count } in
    ap steps_held (ap (each (λ x. noted (step_bytes x)) xs) log-empty ∙ log-held [] xs (omega arith)) ∙ ap₂ whole (held_bytes xs h) (held-count xs h)

-- settling changes the masks alone
pub board-left : (b : Board) → with_masks b (masks_left b) ≡ left b (answer settling_call b)
board-left b = go (answer settling_call b)
  where
    go : (a : Answer Outcome) → with_masks b (left b a).masks ≡ left b a
    go (gives o) = refl
    go (stop s) = refl

module _ (b : Board) (clues : length b.clues ≡ 81) (entries : length b.entries ≡ 81) (masks : length b.masks ≡ 81) where
  few : check_of b ≡ gives tt → length (settling_steps (givens b) b.masks) ≤ 729
  few e = step-lists.most b (record { clues = clues; entries = entries; masks = masks; taken = e })

  pub few-steps : length (steps_done b) ≤ 729
  unfolding steps_done answer
  few-steps = go (check_of b) refl
    where
      go : (a : Answer (Unit {0})) → check_of b ≡ a → length (value_or [] (map (λ _. settling_steps (givens b) b.masks) (passing a (outcome settling_call (givens b) b.masks)))) ≤ 729
      go (gives u) e = few e
      go (stop s) e = omega arith

  -- what settling leaves of a log of zeros, as a value
  pub log-left : steps_held (log_left b (replicate 4376 0)) ≡ value_of (steps_done b)
  unfolding log_left log_after settling_steps steps_done answer each
  log-left = go (check_of b) refl
    where
      log : List ℕ
      log = replicate 4376 0

      go : (a : Answer (Unit {0})) → check_of b ≡ a
          → steps_held (value_or log (map (λ _. log_after (givens b) (settling_instances (givens b) b.masks) b.masks log) (passing a (outcome settling_call (givens b) b.masks))))
          ≡ value_of (value_or [] (map (λ _. settling_steps (givens b) b.masks) (passing a (outcome settling_call (givens b) b.masks))))
      go (gives u) e = log-value (settling_steps (givens b) b.masks) (few e)
      go (stop s) e = log-value [] (omega arith)
