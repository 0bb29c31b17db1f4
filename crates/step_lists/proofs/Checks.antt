-- The checker's answer by its parts: what the checks before the steps say, and what the steps say. Assumes nothing.
use mathlib.Core.Path.{◌≡◌, refl, sym, ap, ◌∙◌}
use mathlib.Core.Bool.{Bool, true, false, cond}
use mathlib.Core.List.{List}
use Prim.Native.Nat.{ℕ, ◌≤◌}
use borrow.Author.Tests.{leb-true}
use lib.Dec.{leb}
use lib.IntN.{pos}
use Rattle.stops.specs.Answer.{Answer, gives, stop}
use Rattle.stops.specs.declared.Stop.TheVariants.{TooManySteps}
use Rattle.stops.proofs.Answers.{stop-gives}
use Rattle.steps.specs.Boards.{Board, givens, fresh}
use Rattle.steps.specs.StepLists.{steps_of, follow, count_check}

-- a list that is not refused with 16 has few steps
pub few-steps : (n : ℕ) → gives tt ≡ count_check n → n ≤ 729
few-steps n e = go (leb n 729) refl e
  where
    go : (t : Bool) → leb n 729 ≡ t → gives tt ≡ cond t (gives (tt {0})) (stop (TooManySteps (pos n))) → n ≤ 729
    go true t e = leb-true n 729 t
    go false t e = absurd (stop-gives (sym e))

-- what the steps answer from the fresh board
pub from-fresh : (b : Board) (bs : List ℕ) {gs ms : List ℕ} {r : Answer (List ℕ)} → gs ≡ givens b → ms ≡ fresh gs → r ≡ follow gs 0 (steps_of bs) ms → r ≡ follow (givens b) 0 (steps_of bs) (fresh (givens b))
from-fresh b bs {gs} p q e = e ∙ ap (follow gs 0 (steps_of bs)) q ∙ ap (λ (x : List ℕ). follow x 0 (steps_of bs) (fresh x)) p
