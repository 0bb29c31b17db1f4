-- The difficulty figure (document 02, F-14): what each wide pass removed, points for it, and a quotient with its remainder.
use Rattle.std.specs.Prelude.{cond, List, [], ◌∷◌, map, ℕ, zero, suc, ◌+◌, ◌*◌, ◌/◌, ◌%◌, eqb, length, replicate}
use Rattle.stops.specs.Answer.{Answer, gives, stop, then}
use Rattle.stops.specs.declared.Stop.TheVariants.{NoOpenCell}
use Rattle.grid.specs.Cells.{cells}
use Rattle.grid.specs.Lists.{select}
use Rattle.steps.specs.Boards.{Board, givens, is_open, fresh}
use Rattle.steps.specs.Calls.{check_of}
use Rattle.steps.specs.Instances.{Instance, lone, place, pair, pointing, claiming, cross, exchanged}
use Rattle.steps.specs.Passes.{Kind, Lone, Place, Pair, Pointing, Claiming, Cross, kinds, instance_taken, pass, sweep, settle, removed_by}

-- ---- what each pass removed

-- what passes, one after the other, remove each
unfoldable pub removed_each : List ℕ → List Kind → List ℕ → List ℕ
removed_each g [] m = []
removed_each g (k ∷ ks) m = removed_by m (pass g k m) ∷ removed_each g ks (pass g k m)

unfoldable pub summed : List ℕ → ℕ
summed [] = 0
summed (x ∷ xs) = x + summed xs

-- two lists of numbers, number by number
unfoldable pub added : List ℕ → List ℕ → List ℕ
added [] ys = []
added (x ∷ xs) [] = []
added (x ∷ xs) (y ∷ ys) = (x + y) ∷ added xs ys

-- in n sweeps: six counts, in the order of the passes
unfoldable pub removed_in : List ℕ → ℕ → List ℕ → List ℕ
removed_in g zero m = replicate 6 0
removed_in g (suc n) m = added (removed_each g kinds m) (removed_in g n (sweep g m))

-- "Settling shall count what each wide pass removed."
unfoldable pub pass_counts : List ℕ → List ℕ → List ℕ
pass_counts g m = removed_in g (settle g m).sweeps m

-- ---- the same by steps

unfoldable pub kind_of : Instance → Kind
kind_of (lone c d) = Lone
kind_of (place u d i) = Place
kind_of (pair u i j a b) = Pair
kind_of (pointing b d k) = Pointing
kind_of (claiming l d k) = Claiming
kind_of (cross d r₁ r₂ c₁ c₂) = Cross
kind_of (exchanged d c₁ c₂ r₁ r₂) = Cross

-- a pass's number in a sweep
unfoldable pub number : Kind → ℕ
number Lone = 0
number Place = 1
number Pair = 2
number Pointing = 3
number Claiming = 4
number Cross = 5

-- what the steps of a kind remove of these, each at its turn
unfoldable pub removed_by_steps : List ℕ → Kind → List Instance → List ℕ → ℕ
removed_by_steps g k [] m = 0
removed_by_steps g k (x ∷ xs) m =
    let n = instance_taken g x m in
    cond (eqb (number (kind_of x)) (number k)) (removed_by m n) 0 + removed_by_steps g k xs n

-- ---- points

-- "Points for each removed candidate are Lone 1, Place 2, Pointing 3, Claiming 3, Pair 4, Cross 6."
unfoldable pub worth : Kind → ℕ
worth Lone = 1
worth Place = 2
worth Pair = 4
worth Pointing = 3
worth Claiming = 3
worth Cross = 6

-- numbers and what each is worth, multiplied and summed
unfoldable pub weighed : List ℕ → List ℕ → ℕ
weighed [] ws = 0
weighed (x ∷ xs) [] = 0
weighed (x ∷ xs) (w ∷ ws) = x * w + weighed xs ws

unfoldable pub points_of : List ℕ → ℕ
points_of counts = weighed counts (map worth kinds)

-- "open cells without entries": those that are given no digit
unfoldable pub open_cells : List ℕ → ℕ
open_cells g = length (select (is_open g) cells)

-- "points divided by open cells without entries, as a whole quotient and the exact remainder"
pub record Figure : Type 0 where
  pub points : ℕ
  pub cells : ℕ
  pub quotient : ℕ
  pub remainder : ℕ

unfoldable pub figure_of : ℕ → ℕ → Figure
figure_of p n = record { points = p; cells = n; quotient = p / n; remainder = p % n }

-- "from settling the fresh board"; "A full grid has no figure and stops with 19, no open cell without an entry, with detail 0, checked before settling."
unfoldable pub difficulty_of : Board → Answer Figure
difficulty_of b =
    let g = givens b in
    then (check_of b) λ _.
    cond (eqb (open_cells g) 0) (stop NoOpenCell) (gives (figure_of (points_of (pass_counts g (fresh g))) (open_cells g)))
