-- Why two readings of the wide passes are wrong: Place over open cells alone costs a filling, and Pair from two open cells alone stops before the settled board. Assumes nothing.
use mathlib.Core.Path.{◌≡◌, refl}
use mathlib.Core.Logic.{◌≢◌}
use mathlib.Core.Bool.{true, cond, false≢true}
use mathlib.Core.List.{List, [], ◌∷◌}
use Prim.Native.Nat.{ℕ, zero, suc, ◌<◌}
use native.Mathlib.Omega.{arith}
use lib.Count.{ones_in, ones}
use lib.Dec.{eqb, lit<}
use lib.IntN.{ℤ, pos}
use lib.ListN.{length, get_or}
use Rattle.candidates.specs.Masks.{minus, single, gather}
use Rattle.candidates.proofs.Order.{sub-le}
use Rattle.grid.specs.Cells.{cells, peers}
use Rattle.grid.specs.Fillings.{number_at, verified}
use Rattle.grid.specs.Lists.{each, select}
use Rattle.grid.specs.Units.{units, unit, unit_cell}
use Rattle.steps.specs.Boards.{at, givens_of, is_open, fresh, taken, total}
use Rattle.steps.specs.Calls.{wide, opened, run}
use Rattle.steps.specs.Fillings.{KeepsClues, InMasks}
use Rattle.steps.specs.Instances.{step_of, lones, places, pointings, claimings}
use Rattle.steps.specs.Loops.{for, up_to}
use Rattle.steps.specs.Passes.{Lone, Place, Pointing, Claiming, Cross, instances, instance_taken, pass, settle}
use Rattle.steps.specs.Ported.{spots, naked_pair_at, naked_pairs}
use Rattle.steps.specs.Steps.{Step, step_taken}
use Rattle.steps.proofs.Lists.{run-fillings}
use Rattle.cases.specs.Cases.{fresh_masks}
use Rattle.cases.specs.Grids.{grid_of, grid_a, p5}
use Rattle.cases.proofs.Conflict.{with_five, settled-below}
use Rattle.cases.proofs.Idle.{cross-idle}
use Rattle.cases.proofs.Laws.{Values}
use Rattle.cases.proofs.P2to6.{p5-clues, p6-holds}

-- ---- "Counting open cells alone in Place: a clue d leaves no open holder, and a cell loses its true digit."

-- Place as it would read open cells alone
abbrev pub open_place_step : List ℕ → ℕ → ℕ → ℕ → Step
open_place_step g u d c =
    record { reads = select (is_open g) (unit u); bars = λ e. cond (eqb e c) 0 (single d); hits = c ∷ []; loses = λ _. minus 511 (single d) }

unfoldable pub open_places : List ℕ → List ℕ → List ℕ
open_places g m = each (λ u. each (λ d. each (λ i. step_taken (is_open g) (open_place_step g u d (unit_cell u i))) (up_to 9)) (up_to 9)) (up_to 27) m

-- a correct filling that keeps the clues: it is in the masks after Place, and not in those after the pass f
pub record Costs (f : List ℕ → List ℕ → List ℕ) (clues filling : List ℤ) : Type 0 where
  pub correct : verified filling ≡ true
  pub keeps : KeepsClues clues filling
  pub after : InMasks (run (wide Place ∷ []) (opened clues)).masks filling
  pub lost : InMasks (f (givens_of clues) (fresh_masks clues)) filling → ⊥

p5-kept : KeepsClues p5 grid_a
unfolding p5 grid_a grid_of for
p5-kept = record { kept = kept }
  where
    kept : (c : ℕ) → c < 81 → get_or p5 c (pos 0) ≢ pos 0 → number_at grid_a c ≡ get_or p5 c (pos 0)
    kept zero h k = absurd (k refl)
    kept (suc c) h k = refl

size : length grid_a ≡ 81
unfolding grid_a grid_of for
size = refl

p5-lost : InMasks (open_places (givens_of p5) (fresh_masks p5)) grid_a → ⊥
unfolding open_places p5 grid_a grid_of for givens_of fresh taken each step_taken cells peers unit units
p5-lost h = false≢true (h.held 0 (lit< tt))

-- In P5 the misread pass empties cell 0: no other open cell of row 0 holds 2, the clue of cell 1.
pub place-over-open-cells : Costs open_places p5 grid_a
place-over-open-cells =
    record {
      correct = p6-holds.right;
      keeps = p5-kept;
      after = (run-fillings p5 p5-clues (wide Place ∷ []) refl grid_a size p6-holds.right).1 p5-kept;
      lost = p5-lost;
    }

-- ---- "Giving Pair only two open cells with equal masks": that is the ported naked pairs.

unfoldable pub open_sweep : List ℕ → List ℕ → List ℕ
open_sweep g m = pass g Cross (pass g Claiming (pass g Pointing (naked_pairs g (pass g Place (pass g Lone m)))))

-- P11 and one more clue 5 in each other row, so that every unit has its 5. (On P11 alone Pointing and Place empty row 0 too, one sweep later.)
unfoldable pub fives : List ℤ
fives =
    grid_of
    (550000000 ∷ 000500000 ∷ 000000500 ∷ 005000000 ∷ 000050000 ∷ 000000050 ∷ 500000000 ∷ 000005000 ∷ 000000005 ∷ [])

-- the misread sweep would stop at once, with every candidate of cell 2 but 5; settling empties the cell
pub record StopsShort : Type 0 where
  pub still : open_sweep (givens_of fives) (fresh_masks fives) ≡ fresh_masks fives
  pub held : at (fresh_masks fives) 2 ≡ 495
  pub emptied : at (settle (givens_of fives) (fresh_masks fives)).left 2 ≡ 0

g : List ℕ
g =
    5 ∷ 5 ∷ 0 ∷ 0 ∷ 0 ∷ 0 ∷ 0 ∷ 0 ∷ 0 ∷
    0 ∷ 0 ∷ 0 ∷ 5 ∷ 0 ∷ 0 ∷ 0 ∷ 0 ∷ 0 ∷
    0 ∷ 0 ∷ 0 ∷ 0 ∷ 0 ∷ 0 ∷ 5 ∷ 0 ∷ 0 ∷
    0 ∷ 0 ∷ 5 ∷ 0 ∷ 0 ∷ 0 ∷ 0 ∷ 0 ∷ 0 ∷
    0 ∷ 0 ∷ 0 ∷ 0 ∷ 5 ∷ 0 ∷ 0 ∷ 0 ∷ 0 ∷
    0 ∷ 0 ∷ 0 ∷ 0 ∷ 0 ∷ 0 ∷ 0 ∷ 5 ∷ 0 ∷
    5 ∷ 0 ∷ 0 ∷ 0 ∷ 0 ∷ 0 ∷ 0 ∷ 0 ∷ 0 ∷
    0 ∷ 0 ∷ 0 ∷ 0 ∷ 0 ∷ 5 ∷ 0 ∷ 0 ∷ 0 ∷
    0 ∷ 0 ∷ 0 ∷ 0 ∷ 0 ∷ 0 ∷ 0 ∷ 0 ∷ 5 ∷ []

m : List ℕ
m =
    16 ∷ 16 ∷ 495 ∷ 495 ∷ 495 ∷ 495 ∷ 495 ∷ 495 ∷ 495 ∷
    495 ∷ 495 ∷ 495 ∷ 16 ∷ 495 ∷ 495 ∷ 495 ∷ 495 ∷ 495 ∷
    495 ∷ 495 ∷ 495 ∷ 495 ∷ 495 ∷ 495 ∷ 16 ∷ 495 ∷ 495 ∷
    495 ∷ 495 ∷ 16 ∷ 495 ∷ 495 ∷ 495 ∷ 495 ∷ 495 ∷ 495 ∷
    495 ∷ 495 ∷ 495 ∷ 495 ∷ 16 ∷ 495 ∷ 495 ∷ 495 ∷ 495 ∷
    495 ∷ 495 ∷ 495 ∷ 495 ∷ 495 ∷ 495 ∷ 495 ∷ 16 ∷ 495 ∷
    16 ∷ 495 ∷ 495 ∷ 495 ∷ 495 ∷ 495 ∷ 495 ∷ 495 ∷ 495 ∷
    495 ∷ 495 ∷ 495 ∷ 495 ∷ 495 ∷ 16 ∷ 495 ∷ 495 ∷ 495 ∷
    495 ∷ 495 ∷ 495 ∷ 495 ∷ 495 ∷ 495 ∷ 495 ∷ 495 ∷ 16 ∷ []

values : Values fives g m
unfolding fives grid_of for givens_of g m fresh taken each cells peers
values = record { givens = refl; masks = refl }

lone : pass g Lone m ≡ m
unfolding g m pass instances lones each step_taken step_of for peers cells
lone = refl

place-pass : pass g Place m ≡ m
unfolding g m pass instances places each step_taken step_of for unit units
place-pass = refl

naked-pairs : naked_pairs g m ≡ m
unfolding g m naked_pairs naked_pair_at ones each unit units
naked-pairs = refl

pointing : pass g Pointing m ≡ m
unfolding g m pass instances pointings each step_taken step_of for unit units
pointing = refl

claiming : pass g Claiming m ≡ m
unfolding g m pass instances claimings each step_taken step_of for unit units
claiming = refl

cross : pass g Cross m ≡ m
unfolding g m spots gather ones_in unit units
cross = cross-idle g m tt

sweep-still : open_sweep g m ≡ m
unfolding open_sweep
sweep-still = rw (lone, place-pass, naked-pairs, pointing, claiming, cross)

few : total m < 730
unfolding total ones m
few = lit< tt

pair-emptied : at (each (instance_taken g) with_five m) 2 ≡ 0
unfolding g m with_five each step_taken step_of unit units
pair-emptied = refl

settled-empty : at (settle g m).left 2 ≡ 0
settled-empty = omega (arith, sub-le ((settled-below g m few).at 2), pair-emptied)

held-still : at m 2 ≡ 495
unfolding m
held-still = refl

pub pair-over-open-cells : StopsShort
pair-over-open-cells =
    record { still = rw (values.givens, values.masks) sweep-still; held = rw (values.givens, values.masks) held-still; emptied = rw (values.givens, values.masks) settled-empty }
