-- P8, naked pairs, and P9, `apply_advanced_techniques` on the same board. Assumes nothing.
use mathlib.Core.Path.{◌≡◌, refl, ap, ◌∙◌}
use mathlib.Core.Bool.{true}
use mathlib.Core.List.{List, [], ◌∷◌, map}
use Prim.Native.Nat.{ℕ}
use lib.Count.{ones}
use Rattle.candidates.specs.Masks.{first_place, gather}
use Rattle.grid.specs.Cells.{cells, peers}
use Rattle.grid.specs.Lists.{each}
use Rattle.grid.specs.Units.{units, unit}
use Rattle.steps.specs.Boards.{givens_of, at, fresh, taken, total}
use Rattle.steps.specs.Calls.{Outcome, naked_pairs_call, advanced_call, outcome}
use Rattle.steps.specs.Loops.{for}
use Rattle.steps.specs.Passes.{removed_by}
use Rattle.steps.specs.Ported.{spots, naked_pair_at, naked_pairs}
use Rattle.steps.specs.Singles.{naked_singles, hidden_singles}
use Rattle.cases.specs.Cases.{Case8, Case9, fresh_masks, on_fresh}
use Rattle.cases.specs.Grids.{grid_of, p8}
use Rattle.cases.proofs.Laws.{Values, fresh-value, call-value, advanced-fresh}

g : List ℕ
g =
    0 ∷ 0 ∷ 0 ∷ 4 ∷ 5 ∷ 6 ∷ 7 ∷ 8 ∷ 9 ∷
    3 ∷ 0 ∷ 0 ∷ 0 ∷ 0 ∷ 0 ∷ 0 ∷ 0 ∷ 0 ∷
    0 ∷ 0 ∷ 0 ∷ 0 ∷ 0 ∷ 0 ∷ 0 ∷ 0 ∷ 0 ∷
    0 ∷ 0 ∷ 0 ∷ 0 ∷ 0 ∷ 0 ∷ 0 ∷ 0 ∷ 0 ∷
    0 ∷ 0 ∷ 0 ∷ 0 ∷ 0 ∷ 0 ∷ 0 ∷ 0 ∷ 0 ∷
    0 ∷ 0 ∷ 0 ∷ 0 ∷ 0 ∷ 0 ∷ 0 ∷ 0 ∷ 0 ∷
    0 ∷ 0 ∷ 0 ∷ 0 ∷ 0 ∷ 0 ∷ 0 ∷ 0 ∷ 0 ∷
    0 ∷ 0 ∷ 0 ∷ 0 ∷ 0 ∷ 0 ∷ 0 ∷ 0 ∷ 0 ∷
    0 ∷ 0 ∷ 0 ∷ 0 ∷ 0 ∷ 0 ∷ 0 ∷ 0 ∷ 0 ∷ []

m : List ℕ
m =
    3 ∷ 3 ∷ 3 ∷ 8 ∷ 16 ∷ 32 ∷ 64 ∷ 128 ∷ 256 ∷
    4 ∷ 507 ∷ 507 ∷ 451 ∷ 451 ∷ 451 ∷ 59 ∷ 59 ∷ 59 ∷
    507 ∷ 507 ∷ 507 ∷ 455 ∷ 455 ∷ 455 ∷ 63 ∷ 63 ∷ 63 ∷
    507 ∷ 511 ∷ 511 ∷ 503 ∷ 495 ∷ 479 ∷ 447 ∷ 383 ∷ 255 ∷
    507 ∷ 511 ∷ 511 ∷ 503 ∷ 495 ∷ 479 ∷ 447 ∷ 383 ∷ 255 ∷
    507 ∷ 511 ∷ 511 ∷ 503 ∷ 495 ∷ 479 ∷ 447 ∷ 383 ∷ 255 ∷
    507 ∷ 511 ∷ 511 ∷ 503 ∷ 495 ∷ 479 ∷ 447 ∷ 383 ∷ 255 ∷
    507 ∷ 511 ∷ 511 ∷ 503 ∷ 495 ∷ 479 ∷ 447 ∷ 383 ∷ 255 ∷
    507 ∷ 511 ∷ 511 ∷ 503 ∷ 495 ∷ 479 ∷ 447 ∷ 383 ∷ 255 ∷ []

-- after naked pairs
n : List ℕ
n =
    3 ∷ 3 ∷ 0 ∷ 8 ∷ 16 ∷ 32 ∷ 64 ∷ 128 ∷ 256 ∷
    4 ∷ 504 ∷ 504 ∷ 451 ∷ 451 ∷ 451 ∷ 59 ∷ 59 ∷ 59 ∷
    504 ∷ 504 ∷ 504 ∷ 455 ∷ 455 ∷ 455 ∷ 63 ∷ 63 ∷ 63 ∷
    507 ∷ 511 ∷ 511 ∷ 503 ∷ 495 ∷ 479 ∷ 447 ∷ 383 ∷ 255 ∷
    507 ∷ 511 ∷ 511 ∷ 503 ∷ 495 ∷ 479 ∷ 447 ∷ 383 ∷ 255 ∷
    507 ∷ 511 ∷ 511 ∷ 503 ∷ 495 ∷ 479 ∷ 447 ∷ 383 ∷ 255 ∷
    507 ∷ 511 ∷ 511 ∷ 503 ∷ 495 ∷ 479 ∷ 447 ∷ 383 ∷ 255 ∷
    507 ∷ 511 ∷ 511 ∷ 503 ∷ 495 ∷ 479 ∷ 447 ∷ 383 ∷ 255 ∷
    507 ∷ 511 ∷ 511 ∷ 503 ∷ 495 ∷ 479 ∷ 447 ∷ 383 ∷ 255 ∷ []

values : Values p8 g m
unfolding p8 grid_of for givens_of g m fresh taken each cells peers
values = record { givens = refl; masks = refl }

naked-pairs : naked_pairs g m ≡ n
unfolding g m n naked_pairs naked_pair_at ones each unit units
naked-pairs = refl

twelve : removed_by m n ≡ 12
unfolding total ones m n
twelve = refl

after : (on_fresh naked_pairs_call p8).masks ≡ n
unfolding outcome
after = ap (λ (o : Outcome). o.masks) (call-value values naked_pairs_call) ∙ naked-pairs

pub p8-holds : Case8
unfolding m n
p8-holds =
    record {
      masks = ap (λ (l : List ℕ). map (at l) (0 ∷ 1 ∷ 2 ∷ [])) (fresh-value values);
      removed = ap (removed_by (fresh_masks p8)) after ∙ ap (λ (l : List ℕ). removed_by l n) (fresh-value values) ∙ twelve;
      emptied = ap (λ (l : List ℕ). at l 2) after;
    }

-- ---- P9

progress : (outcome advanced_call g m).flag ≡ true
unfolding g m outcome naked_singles hidden_singles spots gather first_place ones naked_pairs naked_pair_at each for cells unit units
progress = refl

pub p9-holds : Case9
p9-holds = record { flag = ap (λ (o : Outcome). o.flag) (call-value values advanced_call) ∙ progress; masks = advanced-fresh p8 }
