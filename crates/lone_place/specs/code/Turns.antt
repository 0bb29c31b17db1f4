-- The parts that Lone and Place are made of: what the loops inside them leave of the masks, and the instances that they go through.
use Rattle.std.specs.Prelude.{cond, List, [], ◌∷◌, ℕ, ◌+◌, ◌*◌, eqb}
use Rattle.candidates.specs.Masks.{minus, single}
use Rattle.grid.specs.Cells.{peers}
use Rattle.grid.specs.Units.{unit_cell}
use Rattle.steps.specs.Boards.{is_open}
use Rattle.steps.specs.Instances.{Instance, lone, place}
use Rattle.steps.specs.Loops.{each, for, up_to}
use Rattle.steps.specs.Passes.{instance_taken}
use Rattle.steps.specs.Steps.{lose_at, lose_all}

-- ---- Lone

-- the peers of the cell lose the digits of k
unfoldable pub peers_lose : List ℕ → ℕ → ℕ → List ℕ → List ℕ
peers_lose g c k m = lose_all (is_open g) (peers c) (λ _. k) m

-- the nine instances of a cell
unfoldable pub lone_cell : List ℕ → ℕ → List ℕ → List ℕ
lone_cell g c m = each (λ d. instance_taken g (lone c d)) (up_to 9) m

-- the nine cells of a row
unfoldable pub lone_row : List ℕ → ℕ → List ℕ → List ℕ
lone_row g r m = each (λ k. lone_cell g (9 * r + k)) (up_to 9) m

unfoldable pub cell_lones : ℕ → List Instance
cell_lones c = for (up_to 9) λ d. lone c d ∷ []

unfoldable pub row_lones : ℕ → List Instance
row_lones r = for (up_to 9) λ k. cell_lones (9 * r + k)

-- ---- Place

-- one instance, where `held` are the places that hold the digit
unfoldable pub place_turn : List ℕ → ℕ → ℕ → ℕ → ℕ → List ℕ → List ℕ
place_turn g u d held i m = cond (eqb (minus held (single i)) 0) (lose_at (is_open g) (unit_cell u i) (minus 511 (single d)) m) m

unfoldable pub place_digit : List ℕ → ℕ → ℕ → List ℕ → List ℕ
place_digit g u d m = each (λ i. instance_taken g (place u d i)) (up_to 9) m

unfoldable pub place_unit : List ℕ → ℕ → List ℕ → List ℕ
place_unit g u m = each (place_digit g u) (up_to 9) m

unfoldable pub digit_places : ℕ → ℕ → List Instance
digit_places u d = for (up_to 9) λ i. place u d i ∷ []

unfoldable pub unit_places : ℕ → List Instance
unit_places u = for (up_to 9) (digit_places u)

-- of the units of a family
unfoldable pub family_places : ℕ → List Instance
family_places f = for (up_to 9) λ k. unit_places (9 * f + k)
