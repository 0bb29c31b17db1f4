-- Document 02, F-5: a grid on which Claiming alone removes, and settling in two sweeps. Assumes nothing.
use mathlib.Core.Path.{◌≡◌, refl, ap, ◌∙◌}
use mathlib.Core.Logic.{◌≢◌}
use mathlib.Core.Bool.{false, not}
use mathlib.Core.List.{List, [], ◌∷◌}
use Prim.Native.Nat.{ℕ}
use lib.Count.{ones_in, ones}
use Rattle.candidates.specs.Masks.{gather}
use Rattle.grid.specs.Cells.{cells, peers}
use Rattle.grid.specs.Lists.{each}
use Rattle.grid.specs.Units.{units, unit}
use Rattle.steps.specs.Boards.{givens_of, fresh, taken, total, same_masks}
use Rattle.steps.specs.Calls.{Outcome, wide, settling_call, elimination_outcome, outcome}
use Rattle.steps.specs.Instances.{step_of, lones, places, pointings, claimings}
use Rattle.steps.specs.Loops.{for}
use Rattle.steps.specs.Passes.{Kind, Lone, Place, Pair, Pointing, Claiming, Cross, instances, pass, settle, removed_by}
use Rattle.steps.specs.Ported.{spots}
use Rattle.steps.specs.Steps.{step_taken}
use Rattle.cases.specs.Cases.{CaseClaiming, fresh_masks}
use Rattle.cases.specs.Grids.{grid_of, claimed}
use Rattle.cases.proofs.Idle.{pair-idle, cross-idle}
use Rattle.cases.proofs.Laws.{Values, fresh-value, call-value, idle, sweep-by, next-sweep, last-sweep}

g : List ℕ
g =
    0 ∷ 0 ∷ 0 ∷ 4 ∷ 5 ∷ 6 ∷ 7 ∷ 8 ∷ 9 ∷
    0 ∷ 0 ∷ 0 ∷ 0 ∷ 0 ∷ 0 ∷ 0 ∷ 0 ∷ 0 ∷
    0 ∷ 0 ∷ 0 ∷ 0 ∷ 0 ∷ 0 ∷ 0 ∷ 0 ∷ 0 ∷
    0 ∷ 0 ∷ 0 ∷ 0 ∷ 0 ∷ 0 ∷ 0 ∷ 0 ∷ 0 ∷
    0 ∷ 0 ∷ 0 ∷ 0 ∷ 0 ∷ 0 ∷ 0 ∷ 0 ∷ 0 ∷
    0 ∷ 0 ∷ 0 ∷ 0 ∷ 0 ∷ 0 ∷ 0 ∷ 0 ∷ 0 ∷
    0 ∷ 0 ∷ 0 ∷ 0 ∷ 0 ∷ 0 ∷ 0 ∷ 0 ∷ 0 ∷
    0 ∷ 0 ∷ 0 ∷ 0 ∷ 0 ∷ 0 ∷ 0 ∷ 0 ∷ 0 ∷
    0 ∷ 0 ∷ 0 ∷ 0 ∷ 0 ∷ 0 ∷ 0 ∷ 0 ∷ 0 ∷ []

m : List ℕ
m =
    7 ∷ 7 ∷ 7 ∷ 8 ∷ 16 ∷ 32 ∷ 64 ∷ 128 ∷ 256 ∷
    511 ∷ 511 ∷ 511 ∷ 455 ∷ 455 ∷ 455 ∷ 63 ∷ 63 ∷ 63 ∷
    511 ∷ 511 ∷ 511 ∷ 455 ∷ 455 ∷ 455 ∷ 63 ∷ 63 ∷ 63 ∷
    511 ∷ 511 ∷ 511 ∷ 503 ∷ 495 ∷ 479 ∷ 447 ∷ 383 ∷ 255 ∷
    511 ∷ 511 ∷ 511 ∷ 503 ∷ 495 ∷ 479 ∷ 447 ∷ 383 ∷ 255 ∷
    511 ∷ 511 ∷ 511 ∷ 503 ∷ 495 ∷ 479 ∷ 447 ∷ 383 ∷ 255 ∷
    511 ∷ 511 ∷ 511 ∷ 503 ∷ 495 ∷ 479 ∷ 447 ∷ 383 ∷ 255 ∷
    511 ∷ 511 ∷ 511 ∷ 503 ∷ 495 ∷ 479 ∷ 447 ∷ 383 ∷ 255 ∷
    511 ∷ 511 ∷ 511 ∷ 503 ∷ 495 ∷ 479 ∷ 447 ∷ 383 ∷ 255 ∷ []

-- the first box outside row 0 has lost 1, 2 and 3
n : List ℕ
n =
    7 ∷ 7 ∷ 7 ∷ 8 ∷ 16 ∷ 32 ∷ 64 ∷ 128 ∷ 256 ∷
    504 ∷ 504 ∷ 504 ∷ 455 ∷ 455 ∷ 455 ∷ 63 ∷ 63 ∷ 63 ∷
    504 ∷ 504 ∷ 504 ∷ 455 ∷ 455 ∷ 455 ∷ 63 ∷ 63 ∷ 63 ∷
    511 ∷ 511 ∷ 511 ∷ 503 ∷ 495 ∷ 479 ∷ 447 ∷ 383 ∷ 255 ∷
    511 ∷ 511 ∷ 511 ∷ 503 ∷ 495 ∷ 479 ∷ 447 ∷ 383 ∷ 255 ∷
    511 ∷ 511 ∷ 511 ∷ 503 ∷ 495 ∷ 479 ∷ 447 ∷ 383 ∷ 255 ∷
    511 ∷ 511 ∷ 511 ∷ 503 ∷ 495 ∷ 479 ∷ 447 ∷ 383 ∷ 255 ∷
    511 ∷ 511 ∷ 511 ∷ 503 ∷ 495 ∷ 479 ∷ 447 ∷ 383 ∷ 255 ∷
    511 ∷ 511 ∷ 511 ∷ 503 ∷ 495 ∷ 479 ∷ 447 ∷ 383 ∷ 255 ∷ []

values : Values claimed g m
unfolding claimed grid_of for givens_of g m fresh taken each cells peers
values = record { givens = refl; masks = refl }

eighteen : removed_by m n ≡ 18
unfolding total ones m n
eighteen = refl

differ : same_masks m n ≡ false
unfolding m n
differ = refl

-- ---- the passes, on the fresh masks and on those after Claiming

lone₁ : pass g Lone m ≡ m
unfolding g m pass instances lones each step_taken step_of for peers cells
lone₁ = refl

place₁ : pass g Place m ≡ m
unfolding g m pass instances places each step_taken step_of for unit units
place₁ = refl

pair₁ : pass g Pair m ≡ m
unfolding g m ones_in unit units
pair₁ = pair-idle g m tt

pointing₁ : pass g Pointing m ≡ m
unfolding g m pass instances pointings each step_taken step_of for unit units
pointing₁ = refl

claiming₁ : pass g Claiming m ≡ n
unfolding g m n pass instances claimings each step_taken step_of for unit units
claiming₁ = refl

cross₁ : pass g Cross m ≡ m
unfolding g m spots gather ones_in unit units
cross₁ = cross-idle g m tt

lone₂ : pass g Lone n ≡ n
unfolding g n pass instances lones each step_taken step_of for peers cells
lone₂ = refl

place₂ : pass g Place n ≡ n
unfolding g n pass instances places each step_taken step_of for unit units
place₂ = refl

pair₂ : pass g Pair n ≡ n
unfolding g n ones_in unit units
pair₂ = pair-idle g n tt

pointing₂ : pass g Pointing n ≡ n
unfolding g n pass instances pointings each step_taken step_of for unit units
pointing₂ = refl

claiming₂ : pass g Claiming n ≡ n
unfolding g n pass instances claimings each step_taken step_of for unit units
claiming₂ = refl

cross₂ : pass g Cross n ≡ n
unfolding g n spots gather ones_in unit units
cross₂ = cross-idle g n tt

others-still : (k : Kind) → k ≢ Claiming → pass g k m ≡ m
others-still Lone o = lone₁
others-still Place o = place₁
others-still Pair o = pair₁
others-still Pointing o = pointing₁
others-still Claiming o = absurd (o refl)
others-still Cross o = cross₁

settles : settle g m ≡ record { sweeps = 2; left = n }
settles = next-sweep g 729 m (sweep-by g m lone₁ place₁ pair₁ pointing₁ claiming₁ cross₂) differ ∙ rw (last-sweep g 728 n (sweep-by g n lone₂ place₂ pair₂ pointing₂ claiming₂ cross₂))

settling-value : outcome settling_call g m ≡ record { flag = false; reports = []; sweeps = 2; removed = 18; masks = n }
unfolding outcome
settling-value = rw (settles, eighteen)

claiming-value : outcome (wide Claiming) g m ≡ elimination_outcome m n
unfolding outcome
claiming-value = ap (elimination_outcome m) claiming₁

pub claimed-holds : CaseClaiming
unfolding outcome
claimed-holds =
    record {
      others = λ k o. idle values (wide k) (ap (elimination_outcome m) (others-still k o));
      flag = ap (λ (o : Outcome). o.flag) (call-value values (wide Claiming) ∙ claiming-value) ∙ ap not differ;
      removed =
          ap (λ (o : Outcome). removed_by (fresh_masks claimed) o.masks) (call-value values (wide Claiming) ∙ claiming-value)
          ∙ ap (λ (l : List ℕ). removed_by l n) (fresh-value values) ∙ eighteen;
      sweeps = ap (λ (o : Outcome). o.sweeps) (call-value values settling_call ∙ settling-value);
      settled = ap (λ (o : Outcome). o.removed) (call-value values settling_call ∙ settling-value);
    }
