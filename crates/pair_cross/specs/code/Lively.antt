-- Where Pair and Cross may lose anything: a test of nine lines, each a set of places. Line i is f i. Two lines that hold at most two places between them take those from the other lines.
use Rattle.std.specs.Prelude.{Bool, cond, List, map, ℕ, ◌+◌, ◌*◌, eqb}
use Rattle.std.specs.Int.Bits.{bit_and}
use Rattle.candidates.specs.Masks.{minus, union, tail}
use Rattle.steps.specs.Boards.{at}
use Rattle.steps.specs.Instances.{Instance}
use Rattle.steps.specs.Loops.{each, for, up_to, above}
use Rattle.lanes.specs.code.Lanes.{lane_masks, SameOn, Skips}
use Rattle.pair_cross.specs.code.Twos.{reach_of, frame_taken, frame_instances}
use Rattle.pair_cross.specs.declared.lively.Tally.{Tally}
use Rattle.pair_cross.specs.declared.twos.Frame.TheVariants.{Unit}

-- one line more in a tally: the places that at least one, two and three lines hold
abbrev pub tallied : ℕ → Tally → Tally
tallied x t = record { once = union t.once x; twice = union t.twice (bit_and t.once x); thrice = union t.thrice (bit_and t.twice x) }

unfoldable pub tally_of : (ℕ → ℕ) → Tally
tally_of f = each (λ i. tallied (f i)) (up_to 9) (record { once = 0; twice = 0; thrice = 0 })

-- what the lines other than two hold, where the two hold x and y
abbrev pub others : Tally → ℕ → ℕ → ℕ
others t x y = union (union (minus t.once (union x y)) (minus t.twice (bit_and x y))) t.thrice

-- what they lose of the places that can be lost
abbrev pub lost_of : Tally → ℕ → ℕ → ℕ → ℕ
lost_of t x y free = bit_and (bit_and (others t x y) free) (reach_of (union x y))

-- ---- lines by what they hold

-- at most two places
abbrev pub small : ℕ → Bool
small x = eqb (tail (tail x)) 0

-- at most one place
abbrev pub lone : ℕ → Bool
lone x = eqb (tail x) 0

-- at most one place, and that is shared
abbrev pub hot : ℕ → ℕ → Bool
hot x twice = eqb (union (tail x) (minus x twice)) 0

-- ---- the test

abbrev pub pick : ℕ → ℕ
pick x = cond (small x) x 0

abbrev pub twin : ℕ → ℕ → ℕ
twin x y = cond (eqb x y) x 0

-- what line i holds, if it has at most two places and a line above is equal to it
unfoldable pub twins_above : (ℕ → ℕ) → ℕ → ℕ
twins_above f i = each (λ j k. union k (twin (pick (f i)) (f j))) (above i 9) 0

-- what two equal lines of at most two places hold
unfoldable pub twins : (ℕ → ℕ) → ℕ
twins f = each (λ i k. union k (twins_above f i)) (up_to 8) 0

unfoldable pub any_hot : (ℕ → ℕ) → ℕ → ℕ
any_hot f twice = each (λ i k. union k (cond (hot (f i) twice) 511 0)) (up_to 9) 0

-- nothing only if no two lines make the others lose anything of the places that can be lost
unfoldable pub lively_of : (ℕ → ℕ) → ℕ → ℕ
lively_of f free = let t = tally_of f in bit_and (union (bit_and (any_hot f t.twice) t.once) (bit_and (twins f) t.thrice)) free

-- of sixteen lanes from the first one on
unfoldable pub lively_sets : List ℕ → List ℕ → ℕ → List ℕ
lively_sets p free first = map (λ k. lively_of (at (lane_masks p (first + k))) (at free k)) (up_to 16)

-- ---- Pair by families of units

abbrev pub pair_turn : List ℕ → ℕ → ℕ → List ℕ → List ℕ
pair_turn g f k = frame_taken g (Unit (9 * f + k))

unfoldable pub pair_family : List ℕ → ℕ → List ℕ → List ℕ
pair_family g f m = each (pair_turn g f) (up_to 9) m

unfoldable pub family_instances : ℕ → List Instance
family_instances f = for (up_to 9) λ k. frame_instances (Unit (9 * f + k))

-- where a set holds nothing, the turn of its unit is idle
abbrev pub PairSkips : List ℕ → List ℕ → ℕ → List ℕ → Type 0
PairSkips g m f due = Skips (λ k. SameOn (9 * f + k)) (pair_turn g f) due m
