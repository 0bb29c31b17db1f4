-- What a card's verdict says: its board is the one after settling from the fresh board. Assumes nothing.
use mathlib.Core.Path.{◌≡◌, refl, ap, ◌∙◌, subst}
use mathlib.Core.List.{List, [], ◌∷◌}
use Prim.Native.Nat.{ℕ}
use lib.IntN.{ℤ}
use Rattle.stops.specs.Answer.{Answer, passing}
use Rattle.steps.specs.Boards.{givens, fresh}
use Rattle.steps.specs.Calls.{Clues, settling_call, outcome, answer, left, opened, opened_with, run}
use Rattle.steps.specs.Fillings.{KeepsClues}
use Rattle.steps.proofs.Entries.{givens-none}
use Rattle.steps.proofs.Lists.{opened-taken, run-fillings}
use Rattle.board.specs.Verdicts.{VerdictSays}
use Rattle.board.proofs.VerdictSays.{verdict-says}
use Rattle.text.proofs.Readings.{read-clues}
use Rattle.card.specs.Cards.{text_in, card_for, CardSays, CardsSay}

module _ (clues : List ℤ) (ok : Clues clues) where
  settled : (run (settling_call ∷ []) (opened clues)).masks ≡ (card_for clues).masks
  unfolding run answer opened_with card_for
  settled =
      let b = opened clues in
      ap (λ (a : Answer (Unit {0})). (left b (passing a (outcome settling_call (givens b) b.masks))).masks) (opened-taken clues ok)
      ∙ ap (λ (g : List ℕ). (outcome settling_call g (fresh g)).masks) (givens-none clues)

  says : VerdictSays (KeepsClues clues) (card_for clues).masks
  says = subst (VerdictSays (KeepsClues clues)) settled (verdict-says (run (settling_call ∷ []) (opened clues)).masks (KeepsClues clues) (run-fillings clues ok (settling_call ∷ []) refl))

  pub card-says : CardSays clues
  unfolding card_for
  card-says = record { finished = says.finished; dead = says.dead }

pub cards-say : CardsSay
cards-say = record { read = λ input clues e. card-says clues (read-clues (text_in input) clues e) }
