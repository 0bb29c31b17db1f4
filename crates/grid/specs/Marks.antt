-- The verifier in one pass: it meets "each cell once" and marks "its row, column and box as it goes". The marks are 27 masks,
-- one for each unit, and what the code has in its array. proofs/Marks.antt shows the promise at the end.
use Rattle.std.specs.Prelude.{◌≡◌, ◌↔◌, Bool, true, not, ◌&&◌, List, ℕ, zero, suc, ◌+◌, ◌≤◌, ◌<◌, ℤ, pos, get_or, set, replicate}
use Rattle.candidates.specs.Masks.{has, union, single}
use Rattle.candidates.specs.Sets.{place}
use Rattle.grid.specs.Cells.{row, col, box}
use Rattle.grid.specs.Units.{Member}
use Rattle.grid.specs.Fillings.{number_at, is_digit, verified}

-- ---- a mask for each unit

-- the digits of x join those of unit u
abbrev pub join_at : ℕ → ℕ → List ℕ → List ℕ
join_at u x ms = set ms u (union (get_or ms u 0) x)

-- and those of a cell's row, column and box
unfoldable pub join_units : ℕ → ℕ → List ℕ → List ℕ
join_units c x ms = join_at (18 + box c) x (join_at (9 + col c) x (join_at (row c) x ms))

-- the digits of a cell's row, column and box
unfoldable pub seen : List ℕ → ℕ → ℕ
seen ms c = union (union (get_or ms (row c) 0) (get_or ms (9 + col c) 0)) (get_or ms (18 + box c) 0)

-- ---- the cells, one after the other

-- the number is a digit that neither the cell's row nor its column nor its box has
abbrev pub fits : List ℕ → ℕ → ℤ → Bool
fits ms c z = is_digit z && not (has (seen ms c) (place z))

-- the marks with the digit in a cell marked
abbrev pub marked : List ℕ → ℕ → ℤ → List ℕ
marked ms c z = join_units c (single (place z)) ms

-- the marks after the first k cells
unfoldable pub marks_after : List ℤ → ℕ → List ℕ
marks_after g zero = replicate 27 0
marks_after g (suc k) = marked (marks_after g k) k (number_at g k)

-- none of the first k numbers makes it no
unfoldable pub fine : List ℤ → ℕ → Bool
fine g zero = true
fine g (suc k) = fine g k && fits (marks_after g k) k (number_at g k)

-- ---- the promise

-- the digit at place d was met in unit u: one of the first k cells lies in u and holds it
pub record Met (g : List ℤ) (k u d : ℕ) : Type 0 where
  pub at : ℕ
  pub before : at < k
  pub lies : Member u at
  pub holds : number_at g at ≡ pos (suc d)

pub record OnePass : Type 0 where
  -- "until a number makes it no, the marks after each cell are shown to be exactly the digits met in each unit"
  pub marks : (g : List ℤ) (k : ℕ) → k ≤ 81 → fine g k ≡ true → (u d : ℕ) → u < 27 → (has (get_or (marks_after g k) u 0) d ≡ true) ↔ Met g k u d
  -- "For every 81 numbers its yes or no stays module 10's"
  pub answer : (g : List ℤ) → fine g 81 ≡ verified g
