-- A board: 81 printed clues, 81 entries and 81 masks. "A board is 81 clues (signed 32-bit numbers, 0 = open) and 81 masks"; an entry is 0 where the cell has none (document 02, F-6).
-- Everything below the check of a board works on its givens, the fixed digit of each cell, and its masks.
use Rattle.std.specs.Prelude.{◌≡◌, ◌↔◌, Bool, true, false, cond, ◌&&◌, List, [], ◌∷◌, map, ℕ, ◌+◌, ◌-◌, ◌≤◌, eqb, leb, ℤ, pos, negsuc, length, get_or, replicate}
use Rattle.candidates.specs.Masks.{minus, union, count, place_mask, Sub}
use Rattle.grid.specs.Cells.{cells, peers}
use Rattle.grid.specs.Fillings.{same_number}
use Rattle.steps.specs.Loops.{each}

pub record Board : Type 0 where
  pub clues : List ℤ
  pub entries : List ℤ
  pub masks : List ℕ

-- the same board with other masks
abbrev pub with_masks : Board → List ℕ → Board
with_masks b m = record { clues = b.clues; entries = b.entries; masks = m }

abbrev pub no_entries : List ℤ
no_entries = replicate 81 (pos 0)

-- the mask of a cell
abbrev pub at : List ℕ → ℕ → ℕ
at m c = get_or m c 0

-- ---- the digit that a cell is given: 1 to 9, or 0 where it is open

-- a clue's digit; 0 also for a number that is no clue, which stop 3 refuses
abbrev pub digit_of : ℤ → ℕ
digit_of (pos n) = cond (leb n 9) n 0
digit_of (negsuc n) = 0

abbrev pub no_digit : ℤ → Bool
no_digit z = eqb (digit_of z) 0

unfoldable pub givens_of : List ℤ → List ℕ
givens_of clues = map (λ c. digit_of (get_or clues c (pos 0))) cells

-- a cell with a clue has it, another its entry
abbrev pub joint_of : ℤ → ℤ → ℤ
joint_of clue entry = cond (no_digit clue) entry clue

-- "the printed clues and the remaining entries together": one clue grid
unfoldable pub together : List ℤ → List ℤ → List ℤ
together clues entries = map (λ c. joint_of (get_or clues c (pos 0)) (get_or entries c (pos 0))) cells

-- "All board calls and stop 9 treat entries as clues"
abbrev pub givens : Board → List ℕ
givens b = givens_of (together b.clues b.entries)

abbrev pub given : List ℕ → ℕ → ℕ
given g c = get_or g c 0

abbrev pub is_open : List ℕ → ℕ → Bool
is_open g c = eqb (given g c) 0

-- the digit that a cell is given, as a mask; the code takes any givens
abbrev pub given_mask : List ℕ → ℕ → ℕ
given_mask g c = cond (is_open g c) 0 (place_mask (given g c - 1))

-- 81 cells, each open or given a digit
pub record Givens (g : List ℕ) : Type 0 where
  pub size : length g ≡ 81
  pub small : (c : ℕ) → given g c ≤ 9

-- ---- fresh masks

-- the digits that the peers of a cell are given
unfoldable pub taken : List ℕ → ℕ → ℕ
taken g c = each (λ e k. union k (given_mask g e)) (peers c) 0

-- "A clue cell's mask is its digit alone"; "an open cell holds d exactly if no peer's clue is d"
abbrev pub fresh_at : List ℕ → ℕ → ℕ
fresh_at g c = cond (is_open g c) (minus 511 (taken g c)) (given_mask g c)

unfoldable pub fresh : List ℕ → List ℕ
fresh g = map (fresh_at g) cells

-- ---- masks that a call takes

-- the masks of m are below those of n, cell by cell
pub record Under (m n : List ℕ) : Type 0 where
  pub at : (c : ℕ) → Sub (get_or m c 0) (get_or n c 0)

-- no stop 9: nothing that the fresh mask lacks, and in a clue cell its digit
pub record Admissible (g m : List ℕ) : Type 0 where
  pub size : length m ≡ 81
  pub under : Under m (fresh g)
  pub clues : (c : ℕ) → is_open g c ≡ false → get_or m c 0 ≡ get_or (fresh g) c 0

-- how many candidates there are in all
unfoldable pub total : List ℕ → ℕ
total [] = 0
total (x ∷ xs) = count x + total xs

-- ---- equal boards

-- two lists member by member, by a test of two members
abbrev pub same_by : {A : Type 0} → (A → A → Bool) → List A → List A → Bool
same_by t [] [] = true
same_by t [] (y ∷ ys) = false
same_by t (x ∷ xs) [] = false
same_by t (x ∷ xs) (y ∷ ys) = cond (t x y) (same_by t xs ys) false

abbrev pub same_masks : List ℕ → List ℕ → Bool
same_masks = same_by eqb

-- "two boards are equal exactly if they have the same clues, the same entries and the same masks" (document 02, F-7)
unfoldable pub same_board : Board → Board → Bool
same_board b c = same_by same_number b.clues c.clues && same_by same_number b.entries c.entries && same_masks b.masks c.masks

-- The test says so of the boards that are one, and of no others.
pub record EqualBoards : Type 0 where
  pub test : (b c : Board) → (same_board b c ≡ true) ↔ (b ≡ c)
  pub parts : (b c : Board) → (b ≡ c) ↔ ((b.clues ≡ c.clues) × (b.entries ≡ c.entries) × (b.masks ≡ c.masks))
