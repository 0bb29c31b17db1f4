-- P7, grid A with six cells open. Assumes nothing.
use mathlib.Core.Path.{◌≡◌, refl, ap}
use mathlib.Core.List.{List, [], ◌∷◌, map}
use Prim.Native.Nat.{ℕ}
use lib.Count.{ones_in, ones}
use Rattle.candidates.specs.Masks.{first_place, gather}
use Rattle.grid.specs.Cells.{cells, peers}
use Rattle.grid.specs.Lists.{each}
use Rattle.grid.specs.Units.{units, unit}
use Rattle.steps.specs.Boards.{givens_of, at, fresh, taken}
use Rattle.steps.specs.Chains.{first_some, weak_links, strong_links, elimination, enter, chain_end, chain_digit, chains}
use Rattle.steps.specs.Instances.{step_of, lones, places, pointings, claimings}
use Rattle.steps.specs.Loops.{for, first}
use Rattle.steps.specs.Passes.{Kind, Lone, Place, Pair, Pointing, Claiming, Cross, instances, pass}
use Rattle.steps.specs.Ported.{spots, naked_pair_at, naked_pairs, box_line_at, box_lines, x_wing_at, x_wing_digit, x_wings}
use Rattle.steps.specs.Steps.{step_taken}
use Rattle.cases.specs.Cases.{Case7}
use Rattle.cases.specs.Grids.{grid_of, p7}
use Rattle.cases.proofs.Idle.{pair-idle, cross-idle}
use Rattle.cases.proofs.Laws.{Values, fresh-value, all-idle, every-pass}

g : List ℕ
g =
    0 ∷ 0 ∷ 3 ∷ 4 ∷ 5 ∷ 6 ∷ 7 ∷ 8 ∷ 9 ∷
    4 ∷ 5 ∷ 6 ∷ 7 ∷ 8 ∷ 9 ∷ 1 ∷ 2 ∷ 3 ∷
    7 ∷ 8 ∷ 9 ∷ 1 ∷ 2 ∷ 3 ∷ 4 ∷ 5 ∷ 6 ∷
    0 ∷ 0 ∷ 1 ∷ 5 ∷ 6 ∷ 4 ∷ 8 ∷ 9 ∷ 7 ∷
    5 ∷ 6 ∷ 4 ∷ 8 ∷ 9 ∷ 7 ∷ 2 ∷ 3 ∷ 1 ∷
    8 ∷ 9 ∷ 7 ∷ 2 ∷ 3 ∷ 1 ∷ 5 ∷ 6 ∷ 4 ∷
    0 ∷ 0 ∷ 2 ∷ 6 ∷ 4 ∷ 5 ∷ 9 ∷ 7 ∷ 8 ∷
    6 ∷ 4 ∷ 5 ∷ 9 ∷ 7 ∷ 8 ∷ 3 ∷ 1 ∷ 2 ∷
    9 ∷ 7 ∷ 8 ∷ 3 ∷ 1 ∷ 2 ∷ 6 ∷ 4 ∷ 5 ∷ []

m : List ℕ
m =
    3 ∷ 3 ∷ 4 ∷ 8 ∷ 16 ∷ 32 ∷ 64 ∷ 128 ∷ 256 ∷
    8 ∷ 16 ∷ 32 ∷ 64 ∷ 128 ∷ 256 ∷ 1 ∷ 2 ∷ 4 ∷
    64 ∷ 128 ∷ 256 ∷ 1 ∷ 2 ∷ 4 ∷ 8 ∷ 16 ∷ 32 ∷
    6 ∷ 6 ∷ 1 ∷ 16 ∷ 32 ∷ 8 ∷ 128 ∷ 256 ∷ 64 ∷
    16 ∷ 32 ∷ 8 ∷ 128 ∷ 256 ∷ 64 ∷ 2 ∷ 4 ∷ 1 ∷
    128 ∷ 256 ∷ 64 ∷ 2 ∷ 4 ∷ 1 ∷ 16 ∷ 32 ∷ 8 ∷
    5 ∷ 5 ∷ 2 ∷ 32 ∷ 8 ∷ 16 ∷ 256 ∷ 64 ∷ 128 ∷
    32 ∷ 8 ∷ 16 ∷ 256 ∷ 64 ∷ 128 ∷ 4 ∷ 1 ∷ 2 ∷
    256 ∷ 64 ∷ 128 ∷ 4 ∷ 1 ∷ 2 ∷ 32 ∷ 8 ∷ 16 ∷ []

values : Values p7 g m
unfolding p7 grid_of for givens_of g m fresh taken each cells peers
values = record { givens = refl; masks = refl }

naked-pairs : naked_pairs g m ≡ m
unfolding g m naked_pairs naked_pair_at ones each unit units
naked-pairs = refl

box-lines : box_lines g m ≡ m
unfolding g m box_lines box_line_at spots gather ones each unit units
box-lines = refl

x-wings : x_wings g m ≡ m
unfolding g m x_wings x_wing_digit x_wing_at spots gather first_place ones each unit units
x-wings = refl

chain-pass : chains g m ≡ m
unfolding g m chains chain_digit chain_end enter first_some weak_links strong_links elimination each for first unit units peers cells
chain-pass = refl

lone : pass g Lone m ≡ m
unfolding g m pass instances lones each step_taken step_of for peers cells
lone = refl

place : pass g Place m ≡ m
unfolding g m pass instances places each step_taken step_of for unit units
place = refl

pair : pass g Pair m ≡ m
unfolding g m ones_in unit units
pair = pair-idle g m tt

pointing : pass g Pointing m ≡ m
unfolding g m pass instances pointings each step_taken step_of for unit units
pointing = refl

claiming : pass g Claiming m ≡ m
unfolding g m pass instances claimings each step_taken step_of for unit units
claiming = refl

cross : pass g Cross m ≡ m
unfolding g m spots gather ones_in unit units
cross = cross-idle g m tt

wide-pass : (k : Kind) → pass g k m ≡ m
wide-pass = every-pass g m lone place pair pointing claiming cross

pub p7-holds : Case7
unfolding m
p7-holds =
    record {
      masks = ap (λ (n : List ℕ). map (at n) (0 ∷ 1 ∷ 27 ∷ 28 ∷ 54 ∷ 55 ∷ [])) (fresh-value values);
      passes = all-idle values naked-pairs box-lines x-wings chain-pass wide-pass;
    }
