-- Setters' step lists (document 02, F-10): a step as six bytes, a list of steps checked from the fresh board, and the list of settling's own effective steps.
use Rattle.std.specs.Prelude.{Bool, false, cond, ◌&&◌, List, [], ◌∷◌, map, ℕ, ◌+◌, ◌*◌, ◌/◌, leb, pos, length, take, drop}
use Rattle.std.proofs.Math.Option.{Option, none, some}
use Rattle.stops.specs.Answer as answers
use Rattle.stops.specs.Answer.{Answer, gives, stop, then}
use Rattle.stops.specs.declared.Stop.TheVariants.{BadStep, TooManySteps}
use Rattle.grid.specs.Units.{unit_cell}
use Rattle.steps.specs.Boards.{Board, givens, with_masks, fresh, same_masks}
use Rattle.steps.specs.Calls.{check_of}
use Rattle.steps.specs.Instances.{Instance, lone, place, pair, pointing, claiming, cross, exchanged, line_of, box_of, step_of}
use Rattle.steps.specs.Loops.{for, up_to}
use Rattle.steps.specs.Passes.{kinds, instances, instance_taken, changed, settle}
use Rattle.steps.specs.Steps.{applies}

-- ---- a step as six bytes

-- "A step names one instance of a wide pass in six bytes: its kind (Lone 0, Place 1, Pair 2, Pointing 3, Claiming 4, Cross 5, Cross exchanged with columns first 6), then its parts in the order of 01 and F-5, Pair's cells rising, rows, columns and boxes by unit number, then zeros."
-- Cells are 0 to 80 and digits 1 to 9; an instance has places in its unit and digits from 0.
unfoldable pub step_bytes : Instance → List ℕ
step_bytes (lone c d) = 0 ∷ c ∷ (d + 1) ∷ 0 ∷ 0 ∷ 0 ∷ []
step_bytes (place u d i) = 1 ∷ u ∷ (d + 1) ∷ unit_cell u i ∷ 0 ∷ 0 ∷ []
step_bytes (pair u i j a b) = 2 ∷ u ∷ unit_cell u i ∷ unit_cell u j ∷ (a + 1) ∷ (b + 1) ∷ []
step_bytes (pointing b d k) = 3 ∷ (18 + b) ∷ (d + 1) ∷ line_of b k ∷ 0 ∷ 0 ∷ []
step_bytes (claiming l d k) = 4 ∷ l ∷ (d + 1) ∷ box_of l k ∷ 0 ∷ 0 ∷ []
step_bytes (cross d r₁ r₂ c₁ c₂) = 5 ∷ (d + 1) ∷ r₁ ∷ r₂ ∷ (9 + c₁) ∷ (9 + c₂) ∷ []
step_bytes (exchanged d c₁ c₂ r₁ r₂) = 6 ∷ (d + 1) ∷ (9 + c₁) ∷ (9 + c₂) ∷ r₁ ∷ r₂ ∷ []

-- the instances of a sweep, in its order: all instances of the wide passes
unfoldable pub sweep_instances : List Instance
sweep_instances = for kinds instances

-- the first member of the list that passes
unfoldable pub find_in : (Instance → Bool) → List Instance → Option Instance
find_in f [] = none
find_in f (x ∷ xs) = let r = find_in f xs in cond (f x) (some x) r

-- the instance whose bytes these are; "Other bytes name no instance"
unfoldable pub step_named : List ℕ → Option Instance
step_named bs = find_in (λ x. same_masks (step_bytes x) bs) sweep_instances

-- ---- a list of bytes as steps

-- "a shorter last piece is a step": of so many bytes a sixth, rounded up
abbrev pub steps_in : ℕ → ℕ
steps_in n = (n + 5) / 6

abbrev pub step_count : List ℕ → ℕ
step_count bs = steps_in (length bs)

-- six bytes after six; a shorter last piece "names none"
unfoldable pub steps_of : List ℕ → List (Option Instance)
steps_of bs = map (λ i. step_named (take 6 (drop (6 * i) bs))) (up_to (step_count bs))

-- ---- the checker

-- "its condition holds at its turn and it removes something"
abbrev pub is_good : List ℕ → Option Instance → List ℕ → Bool
is_good g none m = false
is_good g (some x) m = applies (step_of x) m && changed m (instance_taken g x m)

-- the masks after a step; one that names no instance leaves them
abbrev pub after_step : List ℕ → Option Instance → List ℕ → List ℕ
after_step g none m = m
after_step g (some x) m = instance_taken g x m

-- "accepted exactly if each step's condition holds at its turn and it removes something": the masks after the last; or 15 "with the index of the first such step", where these steps begin at i
unfoldable pub follow : List ℕ → ℕ → List (Option Instance) → List ℕ → Answer (List ℕ)
follow g i [] m = gives m
follow g i (s ∷ ss) m = let more = follow g (i + 1) ss (after_step g s m) in cond (is_good g s m) more (stop (BadStep (pos i)))

-- "16, more than 729 steps, with their number"
abbrev pub count_check : ℕ → Answer (Unit {0})
count_check n = cond (leb n 729) (gives tt) (stop (TooManySteps (pos n)))

-- "checked from the fresh board of the handed board's clues and entries", 16 "checked after the board and before any step"; "the final board comes back with it"
unfoldable pub check_steps_of : Board → List ℕ → Answer Board
check_steps_of b bs =
    then (check_of b) λ _.
    then (count_check (step_count bs)) λ _.
    answers.map (with_masks b) (follow (givens b) 0 (steps_of bs) (fresh (givens b)))

-- ---- effective steps

-- of these instances, one after the other, those that remove something at their turn, "in the order done"
unfoldable pub effective : List ℕ → List Instance → List ℕ → List Instance
effective g [] m = []
effective g (x ∷ xs) m =
    let n = instance_taken g x m in
    let more = effective g xs n in
    cond (same_masks m n) more (x ∷ more)

-- the instances that settling goes through: a sweep's, for each of its sweeps
unfoldable pub settling_instances : List ℕ → List ℕ → List Instance
settling_instances g m = for (up_to (settle g m).sweeps) λ _. sweep_instances

-- "The settling call shall hand back the list of its own effective steps"
unfoldable pub settling_steps : List ℕ → List ℕ → List Instance
settling_steps g m = effective g (settling_instances g m) m

-- a list of steps as bytes
unfoldable pub bytes_of : List Instance → List ℕ
bytes_of xs = for xs step_bytes
