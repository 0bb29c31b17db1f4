-- Grids in other clothes (document 02, F-13): "Setters relabel digits and turn grids to get new ones from old." What a change is, what it makes of a board, and the six kinds.
use Rattle.std.specs.Prelude.{◌≡◌, cond, List, map, ℕ, suc, ◌+◌, ◌-◌, ◌*◌, ◌/◌, ◌%◌, ◌<◌, eqb, ltb, ℤ, pos, get_or}
use Rattle.candidates.specs.Masks.{has, gather}
use Rattle.grid.specs.Cells.{cell, row, col, cells}
use Rattle.grid.specs.Units.{in_unit}
use Rattle.steps.specs.Boards.{Board, at, digit_of, no_digit}

-- ---- changes

-- where numbers go, and where they come from
pub record Moves : Type 0 where
  pub to : ℕ → ℕ
  pub from : ℕ → ℕ

-- "one to one", among the numbers below n
pub record OneToOne (n : ℕ) (f : Moves) : Type 0 where
  pub to : (i : ℕ) → i < n → f.to i < n
  pub from : (i : ℕ) → i < n → f.from i < n
  pub back : (i : ℕ) → i < n → f.from (f.to i) ≡ i
  pub forth : (i : ℕ) → i < n → f.to (f.from i) ≡ i

-- Where what stands in a cell goes, which unit a unit becomes, and which digit a digit. Digits are places 0 to 8.
pub record Change : Type 0 where
  pub cells : Moves
  pub units : Moves
  pub digits : Moves

-- A symmetry of the grid: it takes cells to cells, units to units and digits to digits, one to one, and the cells of a unit to the cells of the unit that it becomes.
pub record Symmetry (w : Change) : Type 0 where
  pub cells : OneToOne 81 w.cells
  pub units : OneToOne 27 w.units
  pub digits : OneToOne 9 w.digits
  pub inside : (u c : ℕ) → u < 27 → c < 81 → in_unit (w.units.to u) (w.cells.to c) ≡ in_unit u c

-- one change after another
abbrev pub and_then : Moves → Moves → Moves
and_then f h = record { to = λ i. h.to (f.to i); from = λ i. f.from (h.from i) }

abbrev pub chained : Change → Change → Change
chained v w = record { cells = and_then v.cells w.cells; units = and_then v.units w.units; digits = and_then v.digits w.digits }

-- ---- what a change makes of a board

-- the digits of a mask, each as the digit that it becomes
abbrev pub relabelled_mask : Moves → ℕ → ℕ
relabelled_mask f x = gather (λ d. has x (f.from d)) 9

-- a clue or an entry; what is no digit stays
abbrev pub relabelled_clue : Moves → ℤ → ℤ
relabelled_clue f z = cond (no_digit z) z (pos (suc (f.to (digit_of z - 1))))

unfoldable pub changed_masks : Change → List ℕ → List ℕ
changed_masks w m = map (λ c. relabelled_mask w.digits (at m (w.cells.from c))) cells

unfoldable pub changed_clues : Change → List ℤ → List ℤ
changed_clues w zs = map (λ c. relabelled_clue w.digits (get_or zs (w.cells.from c) (pos 0))) cells

abbrev pub changed_board : Change → Board → Board
changed_board w b = record { clues = changed_clues w b.clues; entries = changed_clues w b.entries; masks = changed_masks w b.masks }

-- ---- the six kinds

-- nothing moves
abbrev pub still : Moves
still = record { to = λ i. i; from = λ i. i }

-- moves that undo themselves
abbrev pub both_ways : (ℕ → ℕ) → Moves
both_ways f = record { to = f; from = f }

-- a and b change places
abbrev pub swapped : ℕ → ℕ → ℕ → ℕ
swapped a b i = cond (eqb i a) b (cond (eqb i b) a i)

-- "Relabelling the nine digits one to one"
abbrev pub relabelling : Moves → Change
relabelling f = record { cells = still; units = still; digits = f }

-- rows and columns move, and with them the bands and the stacks that they make up
abbrev pub lines_moved : (ℕ → ℕ) → (ℕ → ℕ) → (ℕ → ℕ) → (ℕ → ℕ) → Change
lines_moved rows bands columns stacks =
    record {
      cells = both_ways (λ c. cell (rows (row c)) (columns (col c)));
      units = both_ways (λ u. cond (ltb u 9) (rows u) (cond (ltb u 18) (9 + columns (u - 9)) (18 + (3 * bands ((u - 18) / 3) + stacks ((u - 18) % 3)))));
      digits = still;
    }

-- a line goes with its band or stack, to the same place in it
abbrev pub carried : (ℕ → ℕ) → ℕ → ℕ
carried f i = 3 * f (i / 3) + i % 3

-- rows "in one band", or columns "in one stack"
abbrev pub InOneGroup : ℕ → ℕ → Type 0
InOneGroup i j = i / 3 ≡ j / 3

-- "exchanges of rows in one band"
abbrev pub rows_exchanged : ℕ → ℕ → Change
rows_exchanged r s = lines_moved (swapped r s) (λ i. i) (λ i. i) (λ i. i)

-- "of columns in one stack"
abbrev pub columns_exchanged : ℕ → ℕ → Change
columns_exchanged k l = lines_moved (λ i. i) (λ i. i) (swapped k l) (λ i. i)

-- "of bands"
abbrev pub bands_exchanged : ℕ → ℕ → Change
bands_exchanged a b = lines_moved (carried (swapped a b)) (swapped a b) (λ i. i) (λ i. i)

-- "of stacks"
abbrev pub stacks_exchanged : ℕ → ℕ → Change
stacks_exchanged a b = lines_moved (λ i. i) (λ i. i) (carried (swapped a b)) (swapped a b)

-- "and of rows with columns"
abbrev pub turned : Change
turned =
    record {
      cells = both_ways (λ c. cell (col c) (row c));
      units = both_ways (λ u. cond (ltb u 9) (9 + u) (cond (ltb u 18) (u - 9) (18 + (3 * ((u - 18) % 3) + (u - 18) / 3))));
      digits = still;
    }
