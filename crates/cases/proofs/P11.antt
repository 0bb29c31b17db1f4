-- P11, two clues 5 in one row. Assumes nothing.
use mathlib.Core.Path.{◌≡◌, refl, ap, ◌∙◌}
use mathlib.Core.Bool.{false, not}
use mathlib.Core.List.{List, [], ◌∷◌}
use Prim.Native.Nat.{ℕ, ◌≤◌, ◌<◌}
use native.Mathlib.Omega.{arith}
use borrow.Author.Tests.{lt-ltb, not-true}
use lib.Count.{ones}
use lib.Dec.{eqb, ltb, lit<, eqb→eq}
use Rattle.stops.specs.Answer.{gives}
use Rattle.candidates.specs.Masks.{has}
use Rattle.candidates.proofs.Tests.{below, implies, implied, T_true}
use Rattle.candidates.proofs.Order.{sub-le}
use Rattle.grid.specs.Cells.{cells, peers}
use Rattle.grid.specs.Lists.{each}
use Rattle.grid.specs.Units.{units, unit}
use Rattle.steps.specs.Boards.{givens_of, together, at, fresh, taken, total, Under}
use Rattle.steps.specs.Calls.{Outcome, settling_call, outcome, check_of, opened, opened_with}
use Rattle.steps.specs.Instances.{step_of}
use Rattle.steps.proofs.Entries.{opened-masks}
use Rattle.steps.specs.Loops.{for, first}
use Rattle.steps.specs.Passes.{instance_taken, settle}
use Rattle.steps.specs.Steps.{step_taken}
use Rattle.cases.specs.Cases.{Case11}
use Rattle.cases.specs.Grids.{grid_of, p11}
use Rattle.cases.proofs.Conflict.{with_five, settled-below}
use Rattle.cases.proofs.Laws.{Values, fresh-value, call-value}

g : List ℕ
g =
    5 ∷ 5 ∷ 0 ∷ 0 ∷ 0 ∷ 0 ∷ 0 ∷ 0 ∷ 0 ∷
    0 ∷ 0 ∷ 0 ∷ 0 ∷ 0 ∷ 0 ∷ 0 ∷ 0 ∷ 0 ∷
    0 ∷ 0 ∷ 0 ∷ 0 ∷ 0 ∷ 0 ∷ 0 ∷ 0 ∷ 0 ∷
    0 ∷ 0 ∷ 0 ∷ 0 ∷ 0 ∷ 0 ∷ 0 ∷ 0 ∷ 0 ∷
    0 ∷ 0 ∷ 0 ∷ 0 ∷ 0 ∷ 0 ∷ 0 ∷ 0 ∷ 0 ∷
    0 ∷ 0 ∷ 0 ∷ 0 ∷ 0 ∷ 0 ∷ 0 ∷ 0 ∷ 0 ∷
    0 ∷ 0 ∷ 0 ∷ 0 ∷ 0 ∷ 0 ∷ 0 ∷ 0 ∷ 0 ∷
    0 ∷ 0 ∷ 0 ∷ 0 ∷ 0 ∷ 0 ∷ 0 ∷ 0 ∷ 0 ∷
    0 ∷ 0 ∷ 0 ∷ 0 ∷ 0 ∷ 0 ∷ 0 ∷ 0 ∷ 0 ∷ []

m : List ℕ
m =
    16 ∷ 16 ∷ 495 ∷ 495 ∷ 495 ∷ 495 ∷ 495 ∷ 495 ∷ 495 ∷
    495 ∷ 495 ∷ 495 ∷ 511 ∷ 511 ∷ 511 ∷ 511 ∷ 511 ∷ 511 ∷
    495 ∷ 495 ∷ 495 ∷ 511 ∷ 511 ∷ 511 ∷ 511 ∷ 511 ∷ 511 ∷
    495 ∷ 495 ∷ 511 ∷ 511 ∷ 511 ∷ 511 ∷ 511 ∷ 511 ∷ 511 ∷
    495 ∷ 495 ∷ 511 ∷ 511 ∷ 511 ∷ 511 ∷ 511 ∷ 511 ∷ 511 ∷
    495 ∷ 495 ∷ 511 ∷ 511 ∷ 511 ∷ 511 ∷ 511 ∷ 511 ∷ 511 ∷
    495 ∷ 495 ∷ 511 ∷ 511 ∷ 511 ∷ 511 ∷ 511 ∷ 511 ∷ 511 ∷
    495 ∷ 495 ∷ 511 ∷ 511 ∷ 511 ∷ 511 ∷ 511 ∷ 511 ∷ 511 ∷
    495 ∷ 495 ∷ 511 ∷ 511 ∷ 511 ∷ 511 ∷ 511 ∷ 511 ∷ 511 ∷ []

values : Values p11 g m
unfolding p11 grid_of for givens_of g m fresh taken each cells peers
values = record { givens = refl; masks = refl }

-- after the Pairs of the two clues
n : List ℕ
n =
    16 ∷ 16 ∷ 0 ∷ 0 ∷ 0 ∷ 0 ∷ 0 ∷ 0 ∷ 0 ∷
    495 ∷ 495 ∷ 495 ∷ 511 ∷ 511 ∷ 511 ∷ 511 ∷ 511 ∷ 511 ∷
    495 ∷ 495 ∷ 495 ∷ 511 ∷ 511 ∷ 511 ∷ 511 ∷ 511 ∷ 511 ∷
    495 ∷ 495 ∷ 511 ∷ 511 ∷ 511 ∷ 511 ∷ 511 ∷ 511 ∷ 511 ∷
    495 ∷ 495 ∷ 511 ∷ 511 ∷ 511 ∷ 511 ∷ 511 ∷ 511 ∷ 511 ∷
    495 ∷ 495 ∷ 511 ∷ 511 ∷ 511 ∷ 511 ∷ 511 ∷ 511 ∷ 511 ∷
    495 ∷ 495 ∷ 511 ∷ 511 ∷ 511 ∷ 511 ∷ 511 ∷ 511 ∷ 511 ∷
    495 ∷ 495 ∷ 511 ∷ 511 ∷ 511 ∷ 511 ∷ 511 ∷ 511 ∷ 511 ∷
    495 ∷ 495 ∷ 511 ∷ 511 ∷ 511 ∷ 511 ∷ 511 ∷ 511 ∷ 511 ∷ []

row-emptied : each (instance_taken g) with_five m ≡ n
unfolding g m n with_five each step_taken step_of unit units
row-emptied = refl

few : total m < 730
unfolding total ones m
few = lit< tt

row_zero : (c : ℕ) → 2 ≤ c → c < 9 → at n c ≡ 0
unfolding n
row_zero c h k = eqb→eq (at n c) 0 (implied (ltb 1 c) (eqb (at n c) 0) (below 9 (λ c. implies (ltb 1 c) (eqb (at n c) 0)) tt c k) (lt-ltb 1 c h))

no-five : (c : ℕ) → 2 ≤ c → c < 9 → has (at m c) 4 ≡ false
unfolding m
no-five c h k =
    not-true (has (at m c) 4) (T_true (not (has (at m c) 4))
    (implied (ltb 1 c) (not (has (at m c) 4)) (below 9 (λ c. implies (ltb 1 c) (not (has (at m c) 4))) tt c k) (lt-ltb 1 c h)))

settled-zero : (c : ℕ) → at n c ≡ 0 → at (settle g m).left c ≡ 0
settled-zero c e =
    let below : Under (settle g m).left n = rw row-emptied at (settled-below g m few) in
    omega (arith, sub-le (below.at c))

open-board : check_of (opened p11) ≡ gives tt
unfolding p11 grid_of for givens_of check_of opened_with together first fresh taken each cells peers
open-board = refl

pub p11-holds : Case11
unfolding outcome
p11-holds =
    record {
      taken = open-board;
      others = λ c h k. ap (λ (l : List ℕ). has (at l c) 4) (opened-masks p11 ∙ fresh-value values) ∙ no-five c h k;
      emptied = λ c h k. ap (λ (o : Outcome). at o.masks c) (call-value values settling_call) ∙ settled-zero c (row_zero c h k);
    }
