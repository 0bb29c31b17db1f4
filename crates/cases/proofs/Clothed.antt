-- Document 02, F-13: a grid that settles in two sweeps and, with rows and columns exchanged, in three; and two reports that change their order. Assumes nothing.
use mathlib.Core.Path.{◌≡◌, refl, ap, ◌∙◌}
use mathlib.Core.Bool.{false}
use mathlib.Core.List.{List, [], ◌∷◌}
use Prim.Native.Nat.{ℕ}
use lib.Count.{ones_in, ones}
use Rattle.candidates.specs.Masks.{first_place, gather}
use Rattle.grid.specs.Cells.{cells, peers}
use Rattle.grid.specs.Lists.{each}
use Rattle.grid.specs.Units.{units, unit}
use Rattle.steps.specs.Boards.{givens_of, fresh, taken, same_masks}
use Rattle.steps.specs.Calls.{Outcome, settling_call, outcome}
use Rattle.steps.specs.Instances.{step_of, lones, places, pointings, claimings}
use Rattle.steps.specs.Loops.{for}
use Rattle.steps.specs.Passes.{Lone, Place, Pair, Pointing, Claiming, Cross, instances, pass, Sweeps, settle_in, settle}
use Rattle.steps.specs.Ported.{spots}
use Rattle.steps.specs.Singles.{naked_singles}
use Rattle.steps.specs.Steps.{step_taken}
use Rattle.symmetries.specs.Changes.{changed_clues, turned}
use Rattle.cases.specs.Cases.{CaseClothes}
use Rattle.cases.specs.Grids.{grid_of, grid_a, clothed, two_open}
use Rattle.cases.proofs.Idle.{pair-idle, cross-idle}
use Rattle.cases.proofs.Laws.{Values, call-value, sweep-by, next-sweep, last-sweep}

-- ---- the grid

g : List ℕ
g =
    0 ∷ 0 ∷ 3 ∷ 0 ∷ 1 ∷ 9 ∷ 0 ∷ 0 ∷ 0 ∷
    8 ∷ 0 ∷ 0 ∷ 3 ∷ 6 ∷ 2 ∷ 4 ∷ 9 ∷ 0 ∷
    0 ∷ 0 ∷ 0 ∷ 0 ∷ 0 ∷ 8 ∷ 0 ∷ 0 ∷ 0 ∷
    0 ∷ 0 ∷ 0 ∷ 0 ∷ 0 ∷ 0 ∷ 6 ∷ 3 ∷ 0 ∷
    0 ∷ 0 ∷ 0 ∷ 0 ∷ 9 ∷ 0 ∷ 0 ∷ 0 ∷ 0 ∷
    0 ∷ 8 ∷ 0 ∷ 0 ∷ 2 ∷ 0 ∷ 0 ∷ 0 ∷ 9 ∷
    1 ∷ 4 ∷ 0 ∷ 0 ∷ 0 ∷ 0 ∷ 0 ∷ 0 ∷ 0 ∷
    5 ∷ 0 ∷ 0 ∷ 2 ∷ 0 ∷ 0 ∷ 0 ∷ 0 ∷ 4 ∷
    0 ∷ 3 ∷ 2 ∷ 9 ∷ 0 ∷ 0 ∷ 0 ∷ 0 ∷ 7 ∷ []

-- the fresh masks
m₀ : List ℕ
m₀ =
    106 ∷ 114 ∷ 4 ∷ 88 ∷ 1 ∷ 256 ∷ 210 ∷ 242 ∷ 178 ∷
    128 ∷ 81 ∷ 81 ∷ 4 ∷ 32 ∷ 2 ∷ 8 ∷ 256 ∷ 17 ∷
    362 ∷ 371 ∷ 377 ∷ 88 ∷ 88 ∷ 128 ∷ 87 ∷ 115 ∷ 55 ∷
    330 ∷ 339 ∷ 345 ∷ 217 ∷ 216 ∷ 89 ∷ 32 ∷ 4 ∷ 147 ∷
    110 ∷ 115 ∷ 121 ∷ 249 ∷ 256 ∷ 125 ∷ 211 ∷ 219 ∷ 147 ∷
    108 ∷ 128 ∷ 121 ∷ 121 ∷ 2 ∷ 125 ∷ 81 ∷ 89 ∷ 256 ∷
    1 ∷ 8 ∷ 480 ∷ 240 ∷ 212 ∷ 116 ∷ 406 ∷ 178 ∷ 182 ∷
    16 ∷ 352 ∷ 480 ∷ 2 ∷ 196 ∷ 101 ∷ 389 ∷ 161 ∷ 8 ∷
    32 ∷ 4 ∷ 2 ∷ 256 ∷ 152 ∷ 57 ∷ 145 ∷ 177 ∷ 64 ∷ []

-- after Lone
m₁ : List ℕ
m₁ =
    74 ∷ 114 ∷ 4 ∷ 88 ∷ 1 ∷ 256 ∷ 210 ∷ 242 ∷ 178 ∷
    128 ∷ 81 ∷ 81 ∷ 4 ∷ 32 ∷ 2 ∷ 8 ∷ 256 ∷ 17 ∷
    330 ∷ 371 ∷ 377 ∷ 88 ∷ 88 ∷ 128 ∷ 87 ∷ 115 ∷ 55 ∷
    330 ∷ 339 ∷ 345 ∷ 217 ∷ 216 ∷ 89 ∷ 32 ∷ 4 ∷ 147 ∷
    78 ∷ 115 ∷ 121 ∷ 249 ∷ 256 ∷ 125 ∷ 211 ∷ 219 ∷ 147 ∷
    76 ∷ 128 ∷ 121 ∷ 121 ∷ 2 ∷ 125 ∷ 81 ∷ 89 ∷ 256 ∷
    1 ∷ 8 ∷ 448 ∷ 240 ∷ 212 ∷ 116 ∷ 406 ∷ 178 ∷ 182 ∷
    16 ∷ 320 ∷ 448 ∷ 2 ∷ 196 ∷ 101 ∷ 389 ∷ 161 ∷ 8 ∷
    32 ∷ 4 ∷ 2 ∷ 256 ∷ 152 ∷ 25 ∷ 145 ∷ 145 ∷ 64 ∷ []

-- after Pointing
m₂ : List ℕ
m₂ =
    74 ∷ 114 ∷ 4 ∷ 88 ∷ 1 ∷ 256 ∷ 210 ∷ 242 ∷ 178 ∷
    128 ∷ 81 ∷ 81 ∷ 4 ∷ 32 ∷ 2 ∷ 8 ∷ 256 ∷ 17 ∷
    330 ∷ 371 ∷ 377 ∷ 88 ∷ 88 ∷ 128 ∷ 87 ∷ 115 ∷ 55 ∷
    330 ∷ 339 ∷ 345 ∷ 217 ∷ 216 ∷ 88 ∷ 32 ∷ 4 ∷ 147 ∷
    78 ∷ 115 ∷ 121 ∷ 249 ∷ 256 ∷ 124 ∷ 211 ∷ 219 ∷ 147 ∷
    76 ∷ 128 ∷ 121 ∷ 121 ∷ 2 ∷ 124 ∷ 81 ∷ 89 ∷ 256 ∷
    1 ∷ 8 ∷ 448 ∷ 240 ∷ 212 ∷ 112 ∷ 406 ∷ 178 ∷ 182 ∷
    16 ∷ 320 ∷ 448 ∷ 2 ∷ 196 ∷ 97 ∷ 389 ∷ 161 ∷ 8 ∷
    32 ∷ 4 ∷ 2 ∷ 256 ∷ 152 ∷ 25 ∷ 145 ∷ 145 ∷ 64 ∷ []

-- after Claiming, which is settled
m₃ : List ℕ
m₃ =
    10 ∷ 50 ∷ 4 ∷ 88 ∷ 1 ∷ 256 ∷ 210 ∷ 242 ∷ 178 ∷
    128 ∷ 81 ∷ 81 ∷ 4 ∷ 32 ∷ 2 ∷ 8 ∷ 256 ∷ 17 ∷
    266 ∷ 307 ∷ 313 ∷ 88 ∷ 88 ∷ 128 ∷ 87 ∷ 115 ∷ 55 ∷
    330 ∷ 275 ∷ 281 ∷ 217 ∷ 216 ∷ 88 ∷ 32 ∷ 4 ∷ 147 ∷
    78 ∷ 51 ∷ 57 ∷ 249 ∷ 256 ∷ 124 ∷ 211 ∷ 219 ∷ 147 ∷
    76 ∷ 128 ∷ 57 ∷ 121 ∷ 2 ∷ 124 ∷ 81 ∷ 89 ∷ 256 ∷
    1 ∷ 8 ∷ 448 ∷ 240 ∷ 212 ∷ 112 ∷ 406 ∷ 178 ∷ 182 ∷
    16 ∷ 320 ∷ 448 ∷ 2 ∷ 196 ∷ 97 ∷ 389 ∷ 161 ∷ 8 ∷
    32 ∷ 4 ∷ 2 ∷ 256 ∷ 152 ∷ 25 ∷ 145 ∷ 145 ∷ 64 ∷ []

values : Values clothed g m₀
unfolding clothed grid_of for givens_of g m₀ fresh taken each cells peers
values = record { givens = refl; masks = refl }

lone₀ : pass g Lone m₀ ≡ m₁
unfolding g m₀ m₁ pass instances lones each step_taken step_of for peers cells
lone₀ = refl

place₁ : pass g Place m₁ ≡ m₁
unfolding g m₁ pass instances places each step_taken step_of for unit units
place₁ = refl

pair₁ : pass g Pair m₁ ≡ m₁
unfolding g m₁ ones_in unit units
pair₁ = pair-idle g m₁ tt

pointing₁ : pass g Pointing m₁ ≡ m₂
unfolding g m₁ m₂ pass instances pointings each step_taken step_of for unit units
pointing₁ = refl

claiming₂ : pass g Claiming m₂ ≡ m₃
unfolding g m₂ m₃ pass instances claimings each step_taken step_of for unit units
claiming₂ = refl

cross₃ : pass g Cross m₃ ≡ m₃
unfolding g m₃ spots gather ones_in unit units
cross₃ = cross-idle g m₃ tt

lone₃ : pass g Lone m₃ ≡ m₃
unfolding g m₃ pass instances lones each step_taken step_of for peers cells
lone₃ = refl

place₃ : pass g Place m₃ ≡ m₃
unfolding g m₃ pass instances places each step_taken step_of for unit units
place₃ = refl

pair₃ : pass g Pair m₃ ≡ m₃
unfolding g m₃ ones_in unit units
pair₃ = pair-idle g m₃ tt

pointing₃ : pass g Pointing m₃ ≡ m₃
unfolding g m₃ pass instances pointings each step_taken step_of for unit units
pointing₃ = refl

claiming₃ : pass g Claiming m₃ ≡ m₃
unfolding g m₃ pass instances claimings each step_taken step_of for unit units
claiming₃ = refl

differ : same_masks m₀ m₃ ≡ false
unfolding m₀ m₃
differ = refl

two : settle g m₀ ≡ record { sweeps = 2; left = m₃ }
two =
    next-sweep g 729 m₀ (sweep-by g m₀ lone₀ place₁ pair₁ pointing₁ claiming₂ cross₃) differ
    ∙ rw (last-sweep g 728 m₃ (sweep-by g m₃ lone₃ place₃ pair₃ pointing₃ claiming₃ cross₃))

-- ---- rows with columns exchanged

h : List ℕ
h =
    0 ∷ 8 ∷ 0 ∷ 0 ∷ 0 ∷ 0 ∷ 1 ∷ 5 ∷ 0 ∷
    0 ∷ 0 ∷ 0 ∷ 0 ∷ 0 ∷ 8 ∷ 4 ∷ 0 ∷ 3 ∷
    3 ∷ 0 ∷ 0 ∷ 0 ∷ 0 ∷ 0 ∷ 0 ∷ 0 ∷ 2 ∷
    0 ∷ 3 ∷ 0 ∷ 0 ∷ 0 ∷ 0 ∷ 0 ∷ 2 ∷ 9 ∷
    1 ∷ 6 ∷ 0 ∷ 0 ∷ 9 ∷ 2 ∷ 0 ∷ 0 ∷ 0 ∷
    9 ∷ 2 ∷ 8 ∷ 0 ∷ 0 ∷ 0 ∷ 0 ∷ 0 ∷ 0 ∷
    0 ∷ 4 ∷ 0 ∷ 6 ∷ 0 ∷ 0 ∷ 0 ∷ 0 ∷ 0 ∷
    0 ∷ 9 ∷ 0 ∷ 3 ∷ 0 ∷ 0 ∷ 0 ∷ 0 ∷ 0 ∷
    0 ∷ 0 ∷ 0 ∷ 0 ∷ 0 ∷ 9 ∷ 0 ∷ 4 ∷ 7 ∷ []

-- the fresh masks
n₀ : List ℕ
n₀ =
    106 ∷ 128 ∷ 362 ∷ 330 ∷ 110 ∷ 108 ∷ 1 ∷ 16 ∷ 32 ∷
    114 ∷ 81 ∷ 371 ∷ 339 ∷ 115 ∷ 128 ∷ 8 ∷ 352 ∷ 4 ∷
    4 ∷ 81 ∷ 377 ∷ 345 ∷ 121 ∷ 121 ∷ 480 ∷ 480 ∷ 2 ∷
    88 ∷ 4 ∷ 88 ∷ 217 ∷ 249 ∷ 121 ∷ 240 ∷ 2 ∷ 256 ∷
    1 ∷ 32 ∷ 88 ∷ 216 ∷ 256 ∷ 2 ∷ 212 ∷ 196 ∷ 152 ∷
    256 ∷ 2 ∷ 128 ∷ 89 ∷ 125 ∷ 125 ∷ 116 ∷ 101 ∷ 57 ∷
    210 ∷ 8 ∷ 87 ∷ 32 ∷ 211 ∷ 81 ∷ 406 ∷ 389 ∷ 145 ∷
    242 ∷ 256 ∷ 115 ∷ 4 ∷ 219 ∷ 89 ∷ 178 ∷ 161 ∷ 177 ∷
    178 ∷ 17 ∷ 55 ∷ 147 ∷ 147 ∷ 256 ∷ 182 ∷ 8 ∷ 64 ∷ []

-- after Lone
n₁ : List ℕ
n₁ =
    74 ∷ 128 ∷ 330 ∷ 330 ∷ 78 ∷ 76 ∷ 1 ∷ 16 ∷ 32 ∷
    114 ∷ 81 ∷ 371 ∷ 339 ∷ 115 ∷ 128 ∷ 8 ∷ 320 ∷ 4 ∷
    4 ∷ 81 ∷ 377 ∷ 345 ∷ 121 ∷ 121 ∷ 448 ∷ 448 ∷ 2 ∷
    88 ∷ 4 ∷ 88 ∷ 217 ∷ 249 ∷ 121 ∷ 240 ∷ 2 ∷ 256 ∷
    1 ∷ 32 ∷ 88 ∷ 216 ∷ 256 ∷ 2 ∷ 212 ∷ 196 ∷ 152 ∷
    256 ∷ 2 ∷ 128 ∷ 89 ∷ 125 ∷ 125 ∷ 116 ∷ 101 ∷ 25 ∷
    210 ∷ 8 ∷ 87 ∷ 32 ∷ 211 ∷ 81 ∷ 406 ∷ 389 ∷ 145 ∷
    242 ∷ 256 ∷ 115 ∷ 4 ∷ 219 ∷ 89 ∷ 178 ∷ 161 ∷ 145 ∷
    178 ∷ 17 ∷ 55 ∷ 147 ∷ 147 ∷ 256 ∷ 182 ∷ 8 ∷ 64 ∷ []

-- after Pointing
n₂ : List ℕ
n₂ =
    74 ∷ 128 ∷ 330 ∷ 330 ∷ 78 ∷ 76 ∷ 1 ∷ 16 ∷ 32 ∷
    114 ∷ 81 ∷ 371 ∷ 339 ∷ 115 ∷ 128 ∷ 8 ∷ 320 ∷ 4 ∷
    4 ∷ 81 ∷ 377 ∷ 345 ∷ 121 ∷ 121 ∷ 448 ∷ 448 ∷ 2 ∷
    88 ∷ 4 ∷ 88 ∷ 217 ∷ 249 ∷ 121 ∷ 240 ∷ 2 ∷ 256 ∷
    1 ∷ 32 ∷ 88 ∷ 216 ∷ 256 ∷ 2 ∷ 212 ∷ 196 ∷ 152 ∷
    256 ∷ 2 ∷ 128 ∷ 88 ∷ 124 ∷ 124 ∷ 112 ∷ 97 ∷ 25 ∷
    210 ∷ 8 ∷ 87 ∷ 32 ∷ 211 ∷ 81 ∷ 406 ∷ 389 ∷ 145 ∷
    242 ∷ 256 ∷ 115 ∷ 4 ∷ 219 ∷ 89 ∷ 178 ∷ 161 ∷ 145 ∷
    178 ∷ 17 ∷ 55 ∷ 147 ∷ 147 ∷ 256 ∷ 182 ∷ 8 ∷ 64 ∷ []

-- after Claiming
n₃ : List ℕ
n₃ =
    10 ∷ 128 ∷ 266 ∷ 330 ∷ 78 ∷ 76 ∷ 1 ∷ 16 ∷ 32 ∷
    50 ∷ 81 ∷ 307 ∷ 339 ∷ 115 ∷ 128 ∷ 8 ∷ 320 ∷ 4 ∷
    4 ∷ 81 ∷ 313 ∷ 345 ∷ 121 ∷ 121 ∷ 448 ∷ 448 ∷ 2 ∷
    88 ∷ 4 ∷ 88 ∷ 217 ∷ 249 ∷ 121 ∷ 240 ∷ 2 ∷ 256 ∷
    1 ∷ 32 ∷ 88 ∷ 216 ∷ 256 ∷ 2 ∷ 212 ∷ 196 ∷ 152 ∷
    256 ∷ 2 ∷ 128 ∷ 88 ∷ 124 ∷ 124 ∷ 112 ∷ 97 ∷ 25 ∷
    210 ∷ 8 ∷ 87 ∷ 32 ∷ 211 ∷ 81 ∷ 406 ∷ 389 ∷ 145 ∷
    242 ∷ 256 ∷ 115 ∷ 4 ∷ 219 ∷ 89 ∷ 178 ∷ 161 ∷ 145 ∷
    178 ∷ 17 ∷ 55 ∷ 147 ∷ 147 ∷ 256 ∷ 182 ∷ 8 ∷ 64 ∷ []

-- after Claiming again, in the second sweep
n₄ : List ℕ
n₄ =
    10 ∷ 128 ∷ 266 ∷ 330 ∷ 78 ∷ 76 ∷ 1 ∷ 16 ∷ 32 ∷
    50 ∷ 81 ∷ 307 ∷ 275 ∷ 51 ∷ 128 ∷ 8 ∷ 320 ∷ 4 ∷
    4 ∷ 81 ∷ 313 ∷ 281 ∷ 57 ∷ 57 ∷ 448 ∷ 448 ∷ 2 ∷
    88 ∷ 4 ∷ 88 ∷ 217 ∷ 249 ∷ 121 ∷ 240 ∷ 2 ∷ 256 ∷
    1 ∷ 32 ∷ 88 ∷ 216 ∷ 256 ∷ 2 ∷ 212 ∷ 196 ∷ 152 ∷
    256 ∷ 2 ∷ 128 ∷ 88 ∷ 124 ∷ 124 ∷ 112 ∷ 97 ∷ 25 ∷
    210 ∷ 8 ∷ 87 ∷ 32 ∷ 211 ∷ 81 ∷ 406 ∷ 389 ∷ 145 ∷
    242 ∷ 256 ∷ 115 ∷ 4 ∷ 219 ∷ 89 ∷ 178 ∷ 161 ∷ 145 ∷
    178 ∷ 17 ∷ 55 ∷ 147 ∷ 147 ∷ 256 ∷ 182 ∷ 8 ∷ 64 ∷ []

turned-values : Values (changed_clues turned clothed) h n₀
unfolding changed_clues clothed grid_of for givens_of h n₀ fresh taken each cells peers
turned-values = record { givens = refl; masks = refl }

turned-lone₀ : pass h Lone n₀ ≡ n₁
unfolding h n₀ n₁ pass instances lones each step_taken step_of for peers cells
turned-lone₀ = refl

turned-place₁ : pass h Place n₁ ≡ n₁
unfolding h n₁ pass instances places each step_taken step_of for unit units
turned-place₁ = refl

turned-pair₁ : pass h Pair n₁ ≡ n₁
unfolding h n₁ ones_in unit units
turned-pair₁ = pair-idle h n₁ tt

turned-pointing₁ : pass h Pointing n₁ ≡ n₂
unfolding h n₁ n₂ pass instances pointings each step_taken step_of for unit units
turned-pointing₁ = refl

turned-claiming₂ : pass h Claiming n₂ ≡ n₃
unfolding h n₂ n₃ pass instances claimings each step_taken step_of for unit units
turned-claiming₂ = refl

turned-cross₃ : pass h Cross n₃ ≡ n₃
unfolding h n₃ spots gather ones_in unit units
turned-cross₃ = cross-idle h n₃ tt

turned-lone₃ : pass h Lone n₃ ≡ n₃
unfolding h n₃ pass instances lones each step_taken step_of for peers cells
turned-lone₃ = refl

turned-place₃ : pass h Place n₃ ≡ n₃
unfolding h n₃ pass instances places each step_taken step_of for unit units
turned-place₃ = refl

turned-pair₃ : pass h Pair n₃ ≡ n₃
unfolding h n₃ ones_in unit units
turned-pair₃ = pair-idle h n₃ tt

turned-pointing₃ : pass h Pointing n₃ ≡ n₃
unfolding h n₃ pass instances pointings each step_taken step_of for unit units
turned-pointing₃ = refl

turned-claiming₃ : pass h Claiming n₃ ≡ n₄
unfolding h n₃ n₄ pass instances claimings each step_taken step_of for unit units
turned-claiming₃ = refl

turned-cross₄ : pass h Cross n₄ ≡ n₄
unfolding h n₄ spots gather ones_in unit units
turned-cross₄ = cross-idle h n₄ tt

turned-lone₄ : pass h Lone n₄ ≡ n₄
unfolding h n₄ pass instances lones each step_taken step_of for peers cells
turned-lone₄ = refl

turned-place₄ : pass h Place n₄ ≡ n₄
unfolding h n₄ pass instances places each step_taken step_of for unit units
turned-place₄ = refl

turned-pair₄ : pass h Pair n₄ ≡ n₄
unfolding h n₄ ones_in unit units
turned-pair₄ = pair-idle h n₄ tt

turned-pointing₄ : pass h Pointing n₄ ≡ n₄
unfolding h n₄ pass instances pointings each step_taken step_of for unit units
turned-pointing₄ = refl

turned-claiming₄ : pass h Claiming n₄ ≡ n₄
unfolding h n₄ pass instances claimings each step_taken step_of for unit units
turned-claiming₄ = refl

first-differs : same_masks n₀ n₃ ≡ false
unfolding n₀ n₃
first-differs = refl

second-differs : same_masks n₃ n₄ ≡ false
unfolding n₃ n₄
second-differs = refl

two-more : settle_in 729 h n₃ ≡ record { sweeps = 2; left = n₄ }
two-more =
    next-sweep h 728 n₃ (sweep-by h n₃ turned-lone₃ turned-place₃ turned-pair₃ turned-pointing₃ turned-claiming₃ turned-cross₄) second-differs
    ∙ rw (last-sweep h 727 n₄ (sweep-by h n₄ turned-lone₄ turned-place₄ turned-pair₄ turned-pointing₄ turned-claiming₄ turned-cross₄))

three : settle h n₀ ≡ record { sweeps = 3; left = n₄ }
three =
    next-sweep h 729 n₀ (sweep-by h n₀ turned-lone₀ turned-place₁ turned-pair₁ turned-pointing₁ turned-claiming₂ turned-cross₃) first-differs
    ∙ rw two-more

pub clothes-hold : CaseClothes
unfolding outcome naked_singles two_open grid_a grid_of changed_clues for givens_of fresh taken first_place ones each cells peers
clothes-hold =
    record {
      sweeps = ap (λ (o : Outcome). o.sweeps) (call-value values settling_call) ∙ ap (λ (s : Sweeps). s.sweeps) two;
      turned_sweeps = ap (λ (o : Outcome). o.sweeps) (call-value turned-values settling_call) ∙ ap (λ (s : Sweeps). s.sweeps) three;
      reports = refl;
      turned_reports = refl;
    }
