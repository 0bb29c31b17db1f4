-- An answer that is right keeps the clues and is a correct filling: so it is the one of a finished card, and there is none of a dead one. Assumes nothing.
use mathlib.Core.Path.{◌≡◌, refl, sym, ap, ◌∙◌}
use mathlib.Core.Bool.{Bool, true, false, cond, ◌||◌, true≢false}
use mathlib.Core.List.{List}
use mathlib.Core.Option.{Option, none, some}
use mathlib.Core.Logic.{◌≢◌, ⊎_elim}
use Prim.Native.Nat.{ℕ, ◌<◌}
use native.Mathlib.Decide.{ℕ_discrete}
use native.Mathlib.Omega.{arith}
use borrow.Author.Tests.{ne_eqb}
use lib.IntN.{ℤ, pos}
use lib.ListN.{get_or}
use Rattle.stops.specs.Answer.{gives}
use Rattle.candidates.proofs.Tests.{T_true, either}
use Rattle.grid.specs.Cells.{cells}
use Rattle.grid.specs.Fillings.{number_at, same_number, verified}
use Rattle.grid.proofs.Cells.{at_cells}
use Rattle.grid.proofs.Fillings.{verified-correct}
use Rattle.grid.proofs.Lists.{same-eq}
use Rattle.steps.specs.Fillings.{KeepsClues}
use Rattle.steps.proofs.Searches.{none-cells}
use Rattle.text.specs.Texts.{byte_clue, clues_of, parse_of}
use Rattle.text.proofs.Readings.{accepted, plain-test, read-clues}
use Rattle.card.proofs.Verdicts.{card-says}
use Rattle.rounds.specs.declared.answers.Checked.TheVariants.{Wrong, Right}
use Rattle.rounds.specs.Answers.{is_numeral, is_full, is_broken, first_broken, judged, answer_check}
use Rattle.rounds.specs.Promises.{RightAnswer, AnswersSay}

-- what was asked of a right answer
parts : (f : Bool) (o : Option ℕ) (v : Bool) → cond f (judged o v) Wrong ≡ Right → (o ≡ none) × (v ≡ true)
parts true none true e = (refl, refl)
parts true none false e = absurd (let w : ◌≡◌ {A = ℕ} 0 1 = cc in omega arith)
parts true (some c) v e = absurd (let w : ◌≡◌ {A = ℕ} 0 1 = cc in omega arith)
parts false o v e = absurd (let w : ◌≡◌ {A = ℕ} 0 1 = cc in omega arith)

-- a clue that is not broken has its byte in the answer
unbroken : (clue digit : ℕ) → is_numeral clue ≡ true → is_broken clue digit ≡ false → digit ≡ clue
unbroken clue digit n b = go (ℕ_discrete digit clue)
  where
    go : Dec (digit ≡ clue) → digit ≡ clue
    go (yes e) = e
    go (no e) = absurd (true≢false (sym (rw (ne_eqb digit clue e) n) ∙ b))

module _ (grid answer : List ℕ) (clues : List ℤ) (read : parse_of grid ≡ gives clues) (right : answer_check grid answer ≡ Right) where
  abbrev asked : (first_broken grid answer ≡ none) × (verified (clues_of answer) ≡ true)
  asked = parts (is_full answer) (first_broken grid answer) (verified (clues_of answer)) right

  clue-at : (c : ℕ) → c < 81 → get_or clues c (pos 0) ≡ byte_clue (get_or grid c 0)
  clue-at c h = ap (λ (l : List ℤ). get_or l c (pos 0)) (sym (accepted grid clues read).is) ∙ at_cells (pos 0) (λ i. byte_clue (get_or grid i 0)) c h

  numeral : (c : ℕ) → c < 81 → byte_clue (get_or grid c 0) ≢ pos 0 → is_numeral (get_or grid c 0) ≡ true
  numeral c h n =
      ⊎_elim (λ t. t) (λ z. absurd (n (same-eq (byte_clue (get_or grid c 0)) (pos 0) z)))
      ((either (is_numeral (get_or grid c 0)) (same_number (byte_clue (get_or grid c 0)) (pos 0))).0
      (T_true _ (plain-test (λ b. is_numeral b || same_number (byte_clue b) (pos 0)) tt (get_or grid c 0) ((accepted grid clues read).plain c h))))

  keeps : KeepsClues clues (clues_of answer)
  keeps = record { kept = λ c h n. one c h (λ z. n (clue-at c h ∙ z)) }
    where
      one : (c : ℕ) → c < 81 → byte_clue (get_or grid c 0) ≢ pos 0 → number_at (clues_of answer) c ≡ get_or clues c (pos 0)
      one c h n =
          at_cells (pos 0) (λ i. byte_clue (get_or answer i 0)) c h
          ∙ ap byte_clue (unbroken (get_or grid c 0) (get_or answer c 0) (numeral c h n) (none-cells (λ i. is_broken (get_or grid i 0) (get_or answer i 0)) asked.0 c h))
          ∙ sym (clue-at c h)

  right_answer : RightAnswer grid answer clues
  unfolding cells
  right_answer =
      let correct = verified-correct (clues_of answer) refl asked.1 in
      let says = card-says clues (read-clues grid clues read) in
      record { finished = λ v. (says.finished v).only (clues_of answer) correct keeps; dead = λ v. says.dead v (clues_of answer) correct keeps }

pub answers-say : AnswersSay
answers-say = record { right = right_answer }
