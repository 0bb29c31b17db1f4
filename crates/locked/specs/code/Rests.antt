-- What each unit holds outside the places that it shares with another, in lanes: the rests. The nth rest of lane l stands at 48 n + l.
use Rattle.std.specs.Prelude.{◌≡◌, Bool, cond, not, List, map, ℕ, ◌+◌, ◌-◌, ◌*◌, ◌/◌, ◌%◌, ◌≤◌, ◌<◌, ltb, length, set}
use Rattle.std.specs.Int.Bits.{bit_and}
use Rattle.candidates.specs.Masks.{minus, union}
use Rattle.steps.specs.Boards.{at}
use Rattle.steps.specs.Loops.{each, range, up_to}
use Rattle.cells.specs.code.Meets.{meetings, met_places}
use Rattle.cells.specs.code.Unions.{joined_at}
use Rattle.lanes.specs.code.Lanes.{lane_at, lane_masks, lane_of}

-- the masks of a lane's open cells, and nothing for the others, where q are the doors in lanes
unfoldable pub loose_masks : List ℕ → List ℕ → ℕ → List ℕ
loose_masks p q l = map (λ i. bit_and (lane_at p l i) (lane_at q l i)) (up_to 9)

abbrev pub nine_of : List ℕ → List ℕ → Bool → ℕ → List ℕ
nine_of p q loose l = cond loose (loose_masks p q l) (lane_masks p l)

-- what the masks of a unit hold outside the n-th unit that meets it
abbrev pub rest_of : List ℕ → ℕ → ℕ
rest_of nine n = joined_at nine (minus 511 (met_places n))

abbrev pub put_rest : List ℕ → ℕ → ℕ → List ℕ → List ℕ
put_rest nine l n r = set r (48 * n + l) (rest_of nine n)

-- the first of them
unfoldable pub put_lane : List ℕ → ℕ → ℕ → List ℕ → List ℕ
put_lane nine count l r = each (put_rest nine l) (up_to count) r

abbrev pub put_turn : List ℕ → List ℕ → Bool → ℕ → ℕ → List ℕ → List ℕ
put_turn p q loose count l r = put_lane (nine_of p q loose l) count l r

-- of the lanes from the first to before the end
unfoldable pub put_lanes : List ℕ → List ℕ → Bool → ℕ → ℕ → ℕ → List ℕ → List ℕ
put_lanes p q loose count first end r = each (put_turn p q loose count) (range (end - first) first) r

-- three of a line, six of a box; of the units that may lose, which are the lines in a pass by boxes, open cells count alone
unfoldable pub put_rests : List ℕ → List ℕ → Bool → List ℕ → List ℕ
put_rests p q boxes r = put_lanes p q (not boxes) 6 32 48 (put_lanes p q boxes 3 0 32 r)

-- the same, read
pub record Rests (p q : List ℕ) (boxes : Bool) (r : List ℕ) : Type 0 where
  pub size : length r ≡ 288
  pub lines : (n l : ℕ) → n < 3 → l < 32 → at r (48 * n + l) ≡ rest_of (nine_of p q boxes l) n
  pub blocks : (n l : ℕ) → n < 6 → 32 ≤ l → l < 48 → at r (48 * n + l) ≡ rest_of (nine_of p q (not boxes) l) n

-- a unit's own rests anew, where the masks of its cells are these, clue cells too
unfoldable pub renewed : List ℕ → ℕ → List ℕ → List ℕ
renewed nine u r = put_lane nine (meetings u) (lane_of u) r

-- ---- what is due

-- where a unit meets three others
abbrev pub due_on : List ℕ → ℕ → ℕ → ℕ
due_on r here across = minus (at r across) (at r here)

unfoldable pub due_three : List ℕ → ℕ → ℕ → ℕ → ℕ
due_three r here across step = union (union (due_on r here across) (due_on r (here + 48) (across + step))) (due_on r (here + 96) (across + 2 * step))

abbrev pub row_due : List ℕ → ℕ → ℕ
row_due r u = due_three r u (48 * (u % 3) + 32 + 3 * (u / 3)) 1

abbrev pub col_due : List ℕ → ℕ → ℕ
col_due r u = due_three r (16 + u) (48 * (3 + u % 3) + 32 + u / 3) 3

abbrev pub box_due : List ℕ → ℕ → ℕ
box_due r b = union (due_three r (32 + b) (48 * (b % 3) + 3 * (b / 3)) 1) (due_three r (176 + b) (48 * (b / 3) + 16 + 3 * (b % 3)) 1)

unfoldable pub unit_due : List ℕ → ℕ → ℕ
unit_due r u = cond (ltb u 9) (row_due r u) (cond (ltb u 18) (col_due r (u - 9)) (box_due r (u - 18)))

-- of nine units from the first one on
unfoldable pub nine_due : List ℕ → ℕ → List ℕ
nine_due r first = map (λ k. unit_due r (first + k)) (up_to 9)

-- the sets before set n hold nothing
pub record NoneIn (sets : List ℕ) (n : ℕ) : Type 0 where
  pub most : n ≤ 9
  pub none : (k : ℕ) → k < n → at sets k ≡ 0

-- nothing is due of the units from the first to before unit n
pub record NoneDue (r : List ℕ) (first n : ℕ) : Type 0 where
  pub from : first ≤ n
  pub none : (u : ℕ) → first ≤ u → u < n → unit_due r u ≡ 0
