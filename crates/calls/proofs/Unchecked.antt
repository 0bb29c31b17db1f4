-- Steps that are run without a check: on boards that a list reaches none is refused. Assumes nothing.
use mathlib.Core.Path.{◌≡◌, refl, sym, ap, subst}
use mathlib.Core.List.{List}
use mathlib.Core.Option
use mathlib.Core.Option.{Option, none, some}
use Prim.Native.Nat.{ℕ}
use lib.IntN.{ℤ, pos}
use lib.ListN.{length, get_or}
use Rattle.stops.specs.Answer.{Answer, gives, then, passing, stop_at, value_or}
use Rattle.stops.specs.declared.Stop.TheVariants.{BadClue, BadEntry}
use Rattle.stops.proofs.Answers.{stop-gives}
use Rattle.steps.specs.Boards as S
use Rattle.steps.specs.Boards.{Admissible, givens, with_masks}
use Rattle.steps.specs.Calls.{Call, Clues, Entries, Admitted, bad_clue, bad_entry, first_bad_clue, first_bad_entry, outcome, answer, left, opened_with}
use Rattle.steps.proofs.Searches.{none-cells}
use Rattle.steps.proofs.Fresh.{fresh-admissible}
use Rattle.steps.proofs.Lists.{Good, accepted, opened-good, call-admits}
use Rattle.board.specs.Boards.{open_with_of}
use Rattle.calls.specs.StepNumbers.{step_call, step_answer, step_left}
use Rattle.calls.specs.code.Unchecked.{call_masks, step_masks}

-- ---- on boards that are admitted

module _ (n : ℕ) (b : S.Board) (ok : Good Admissible b) where
  -- the check finds nothing
  pub step-unchecked : step_left b (step_answer n b) ≡ with_masks b (step_masks n (givens b) b.masks)
  unfolding step_answer step_masks answer
  step-unchecked = go (step_call n)
    where
      go : (o : Option Call) → step_left b (Option.map (λ k. answer k b) o) ≡ with_masks b (call_masks o (givens b) b.masks)
      go none = refl
      go (some k) = ap (λ (w : Answer (Unit {0})). left b (passing w (outcome k (givens b) b.masks))) (accepted b ok)

  pub step-good : Good Admissible (with_masks b (step_masks n (givens b) b.masks))
  unfolding step_answer
  step-good = subst (Good Admissible) step-unchecked (go (step_call n))
    where
      go : (o : Option Call) → Good Admissible (step_left b (Option.map (λ k. answer k b) o))
      go none = ok
      go (some k) = call-admits k b ok

-- ---- the board that is opened

opened-by : (clues entries : List ℤ) (x y : Option ℕ) {b : S.Board} → then (stop_at BadClue x) (λ _. passing (stop_at BadEntry y) (opened_with clues entries)) ≡ gives b → (x ≡ none) × (y ≡ none) × (opened_with clues entries ≡ b)
opened-by clues entries none none e = (refl, refl, ap (value_or (opened_with clues entries)) e)
opened-by clues entries none (some c) e = absurd (stop-gives e)
opened-by clues entries (some c) y e = absurd (stop-gives e)

pub open-admitted : (clues entries : List ℤ) → length clues ≡ 81 → length entries ≡ 81 → {b : S.Board} → gives b ≡ open_with_of clues entries → Admitted b
unfolding open_with_of
open-admitted clues entries cl el e =
    let w = opened-by clues entries (first_bad_clue clues) (first_bad_entry clues entries) (sym e) in
    let ok : Clues clues = record { size = cl; good = none-cells (λ c. bad_clue (get_or clues c (pos 0))) w.0 } in
    let en : Entries clues entries = record { size = el; good = none-cells (λ c. bad_entry (get_or clues c (pos 0)) (get_or entries c (pos 0))) w.1 } in
    subst Admitted w.2 (good-admitted (opened_with clues entries) (opened-good Admissible fresh-admissible clues entries ok en))
  where
    good-admitted : (b : S.Board) → Good Admissible b → Admitted b
    good-admitted b r = record { clues = r.clues.size; entries = r.entries.size; masks = r.masks.size; taken = accepted b r }
