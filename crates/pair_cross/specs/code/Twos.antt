-- Pair and Cross as one search: a frame has nine lines of nine places each. Two lines that hold nothing outside two places take those from the other lines.
use Rattle.std.specs.Prelude.{◌≡◌, ◌⊎◌, cond, List, [], ◌∷◌, map, ℕ, ◌+◌, ◌-◌, ◌<◌, eqb, get_or}
use Rattle.std.specs.Int.Bits.{bit_and}
use Rattle.candidates.specs.Masks.{minus, union, count, tail}
use Rattle.grid.specs.Units.{unit_cell}
use Rattle.steps.specs.Boards.{at, is_open}
use Rattle.steps.specs.Instances.{Instance, pair, cross, exchanged, both, pair_step, cross_step}
use Rattle.steps.specs.Loops.{each, for, up_to, above}
use Rattle.steps.specs.Steps.{Step, lose_all, step_taken}
use Rattle.cells.specs.code.Places.{all_masks, held_places}
use Rattle.pair_cross.specs.declared.twos.Frame.{Frame}
use Rattle.pair_cross.specs.declared.twos.Frame.TheVariants.{Unit, Lines}

-- ---- two different numbers 0 to 8, the first rising and then the second

abbrev pub firsts : List ℕ
firsts =
    0 ∷ 0 ∷ 0 ∷ 0 ∷ 0 ∷ 0 ∷ 0 ∷ 0 ∷ 1 ∷ 1 ∷ 1 ∷ 1 ∷ 1 ∷ 1 ∷ 1 ∷ 2 ∷ 2 ∷ 2 ∷ 2 ∷ 2 ∷ 2 ∷ 3 ∷ 3 ∷ 3 ∷ 3 ∷ 3 ∷ 4 ∷ 4 ∷ 4 ∷ 4 ∷ 5 ∷ 5 ∷ 5 ∷ 6 ∷ 6 ∷ 7 ∷ []

abbrev pub seconds : List ℕ
seconds =
    1 ∷ 2 ∷ 3 ∷ 4 ∷ 5 ∷ 6 ∷ 7 ∷ 8 ∷ 2 ∷ 3 ∷ 4 ∷ 5 ∷ 6 ∷ 7 ∷ 8 ∷ 3 ∷ 4 ∷ 5 ∷ 6 ∷ 7 ∷ 8 ∷ 4 ∷ 5 ∷ 6 ∷ 7 ∷ 8 ∷ 5 ∷ 6 ∷ 7 ∷ 8 ∷ 6 ∷ 7 ∷ 8 ∷ 7 ∷ 8 ∷ 8 ∷ []

unfoldable pub first_of : ℕ → ℕ
first_of p = get_or firsts p 0

unfoldable pub second_of : ℕ → ℕ
second_of p = get_or seconds p 0

-- ---- frames

-- the first row or the first column
abbrev pub FirstLine : ℕ → Type 0
FirstLine f = (f ≡ 0) ⊎ (f ≡ 9)

-- the frame is there: a unit of the 27; rows or columns, and a digit
abbrev pub Framed : Frame → Type 0
Framed (Unit u) = u < 27
Framed (Lines f d) = FirstLine f × (d < 9)

-- the step of lines i and j and places a and b
abbrev pub frame_step : Frame → ℕ → ℕ → ℕ → ℕ → Step
frame_step (Unit u) i j a b = pair_step u (unit_cell u i) (unit_cell u j) a b
frame_step (Lines f d) i j a b = cross_step d (f + i) (f + j) (9 - f + a) (9 - f + b)

-- the instance whose step it is: of rows Cross, of columns Cross exchanged
abbrev pub frame_instance : Frame → ℕ → ℕ → ℕ → ℕ → Instance
frame_instance (Unit u) i j a b = pair u i j a b
frame_instance (Lines f d) i j a b = cond (eqb f 0) (cross d i j a b) (exchanged d i j a b)

-- what line i holds, clue cells too
abbrev pub line_held : List ℕ → Frame → ℕ → ℕ
line_held m (Unit u) i = at m (unit_cell u i)
line_held m (Lines f d) i = held_places m (f + i) d

-- what lines i and j hold of the nine places
unfoldable pub two_held : List ℕ → Frame → ℕ → ℕ → ℕ
two_held m F i j = bit_and (union (line_held m F i) (line_held m F j)) 511

-- ---- the same as code has it

unfoldable pub held_lines : List ℕ → ℕ → ℕ → List ℕ
held_lines m f d = map (λ i. held_places m (f + i) d) (up_to 9)

abbrev pub line_masks : List ℕ → Frame → List ℕ
line_masks m (Unit u) = all_masks m u
line_masks m (Lines f d) = held_lines m f d

-- all places that the other lines can lose to two lines that hold k: any if k has one or none, those of k if it has two, else none
unfoldable pub reach_of : ℕ → ℕ
reach_of k = cond (eqb (count (tail k)) 0) 511 (cond (eqb (count (tail (tail k))) 0) k 0)

-- ---- the loops

unfoldable pub two_lose : List ℕ → Frame → ℕ → ℕ → ℕ → ℕ → List ℕ → List ℕ
two_lose g F i j a b m = let s = frame_step F i j a b in lose_all (is_open g) s.hits s.loses m

-- one instance, where `held` is what the two lines hold
unfoldable pub two_turn : List ℕ → Frame → ℕ → ℕ → ℕ → ℕ → ℕ → List ℕ → List ℕ
two_turn g F i j held a b m = cond (eqb (minus held (both a b)) 0) (two_lose g F i j a b m) m

unfoldable pub lines_turned : List ℕ → Frame → ℕ → ℕ → ℕ → List ℕ → List ℕ
lines_turned g F i j held m = each (λ q. two_turn g F i j held (first_of q) (second_of q)) (up_to 36) m

unfoldable pub lines_taken : List ℕ → Frame → ℕ → ℕ → List ℕ → List ℕ
lines_taken g F i j m = each (λ q. step_taken (is_open g) (frame_step F i j (first_of q) (second_of q))) (up_to 36) m

unfoldable pub frame_taken : List ℕ → Frame → List ℕ → List ℕ
frame_taken g F m = each (λ p. lines_taken g F (first_of p) (second_of p)) (up_to 36) m

unfoldable pub cross_lines : List ℕ → ℕ → List ℕ → List ℕ
cross_lines g f m = each (λ d. frame_taken g (Lines f d)) (up_to 9) m

-- ---- the instances of the loops, in their order

-- of lines i and j
unfoldable pub lines_instances : Frame → ℕ → ℕ → List Instance
lines_instances F i j = for (up_to 36) λ q. frame_instance F i j (first_of q) (second_of q) ∷ []

-- of line i and those above it
abbrev pub line_instances : Frame → ℕ → List Instance
line_instances F i = for (above i 9) (lines_instances F i)

unfoldable pub frame_instances : Frame → List Instance
frame_instances F = for (up_to 9) (line_instances F)

-- of each digit, for rows or columns from the first one
unfoldable pub cross_instances : ℕ → List Instance
cross_instances f = for (up_to 9) λ d. frame_instances (Lines f d)
